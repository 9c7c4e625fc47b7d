-- `card_line::cipher_of` meets its contract: it is a word as a byte.
-- Assumes nothing.
use Rattle.card_line.specs.Words.{line_in}
use Rattle.card_line.proofs.cipher_of.Goals as goal

pub returns : goal.returns
unfolding line_in
returns c = c.byte.ensures
