-- `command_read::read_crypt` meets its contract: two bytes make the count.
-- Assumes nothing.
use Rattle.command.specs.Decode.{crypt_of}
use Rattle.command_read.proofs.read_crypt.Goals as goal

pub returns : goal.returns
unfolding crypt_of
returns c = rw c.from_be_bytes-count.ensures
