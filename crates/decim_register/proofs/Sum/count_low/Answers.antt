-- `decim_register::Sum::count_low` meets its contract: what its parts ensure, put together.
-- Assumes nothing.
use Rattle.decim_register.specs.Wide.{counted}
use Rattle.decim_register.proofs.Sum.count_low.Goals as goal

pub returns : goal.returns
unfolding counted
returns c =
    rw (c.add-4.ensures, c.splice-4.ensures, c.add-3.ensures, c.splice-3.ensures, c.add-2.ensures, c.splice-2.ensures, c.add.ensures, c.splice.ensures)
