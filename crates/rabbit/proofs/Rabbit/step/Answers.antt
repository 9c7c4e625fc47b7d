-- `rabbit::Rabbit::step` meets its contract: what its parts ensure, put together.
-- Assumes nothing.
use Rattle.rabbit.specs.Cipher.{next}
use Rattle.rabbit.proofs.Rabbit.step.Goals as goal

pub returns : goal.returns
unfolding next
returns c = rw (c.mix-mixed.ensures, c.gs.ensures, c.count-counted.ensures)
