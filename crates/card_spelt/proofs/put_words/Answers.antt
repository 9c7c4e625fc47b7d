-- `card_spelt::put_words` meets its contract: the bytes of the words before i stand at the start.
-- Assumes nothing.
use Rattle.std.proofs.Common.{arith}
use Rattle.card_spelt.proofs.Fronts.{word_more}
use Rattle.card_spelt.proofs.put_words.Goals as goal

pub loop-i-preserved : goal.loop-i-preserved
loop-i-preserved c =
    word_more c.args.w.now c.args.out.now c.loop-i.out _ c.loop-i.i (omega arith) (omega arith) c.loop-i.invariant c.put_word.ensures
