-- `decim::Decim::init` meets its contract: what its parts ensure, put together.
-- Assumes nothing.
use Rattle.decim.specs.Cipher.{init, lfsr_filled}
use Rattle.decim.proofs.Decim.init.Goals as goal

pub returns : goal.returns
unfolding init lfsr_filled
returns c = rw (c.filled.ensures, c.mixed_in-a.ensures, c.load.ensures)
