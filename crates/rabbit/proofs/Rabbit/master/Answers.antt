-- `rabbit::Rabbit::master` meets its contract: the loaded state after four steps.
-- Assumes nothing.
use Rattle.rabbit.specs.Cipher.{master}
use Rattle.rabbit.proofs.Rabbit.master.Goals as goal

pub returns : goal.returns
unfolding master
returns c = rw (c.four.ensures, c.load.ensures)
