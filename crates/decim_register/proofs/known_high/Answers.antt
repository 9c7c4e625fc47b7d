-- `decim_register::known_high` meets its contract: what its parts ensure, put together.
-- Assumes nothing.
use Rattle.decim_register.specs.Wide.{known_high}
use Rattle.decim_register.proofs.known_high.Goals as goal

pub returns : goal.returns
unfolding known_high
returns c = rw (c.splice-3.ensures, c.splice-2.ensures, c.splice.ensures)
