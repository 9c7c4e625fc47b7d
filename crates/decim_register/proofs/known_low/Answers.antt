-- `decim_register::known_low` meets its contract: what its parts ensure, put together.
-- Assumes nothing.
use Rattle.decim_register.specs.Wide.{known_low}
use Rattle.decim_register.proofs.known_low.Goals as goal

pub returns : goal.returns
unfolding known_low
returns c =
    rw (c.splice-7.ensures, c.splice-6.ensures, c.splice-5.ensures, c.splice-4.ensures, c.splice-3.ensures, c.splice-2.ensures, c.splice.ensures)
