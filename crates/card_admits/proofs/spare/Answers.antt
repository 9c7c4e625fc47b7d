-- `card_admits::spare` meets its contract: the part from k on is what is left of the words there.
-- Assumes nothing.
use Rattle.std.proofs.Common.{ap, ◌∙◌, rules}
use Rattle.keystream.proofs.Parts.{tail-part}
use Rattle.ciphers.specs.Table.{all_zero}
use Rattle.card_admits.proofs.spare.Goals as goal

pub returns : goal.returns
returns c = c.words_zero.ensures ∙ ap all_zero (tail-part c.args.k c.args.w.now)
