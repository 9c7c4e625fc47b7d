-- `command_read::read_change` meets its contract: each operand is read from its own place.
-- Assumes nothing.
use Rattle.command.specs.Decode.{change_of}
use Rattle.command_read.proofs.read_change.Goals as goal

pub returns : goal.returns
unfolding change_of
returns c = rw (c.word_at-low.ensures, c.word_at-high.ensures)
