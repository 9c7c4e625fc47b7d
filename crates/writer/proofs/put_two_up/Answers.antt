-- `writer::put_two_up` meets its contract: the second word goes to the part after the first, which is lent and comes back.
-- Assumes nothing.
use Rattle.writer.proofs.Words.{two-put-up}
use Rattle.writer.proofs.put_two_up.Goals as goal

pub returns : goal.returns
returns c =
    two-put-up c.args.v c.args.w c.args.text.now c.args.out.now _ _ c.requires.0 c.requires.1 c.put_word_up.ensures c.put_word_up-2.ensures
