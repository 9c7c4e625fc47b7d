-- `rabbit::Rabbit::start` meets its contract: the state with the IV in it after five steps.
-- Assumes nothing.
use Rattle.rabbit.specs.Cipher.{started}
use Rattle.rabbit.proofs.Rabbit.start.Goals as goal

pub returns : goal.returns
unfolding started
returns c = rw (c.step.ensures, c.four.ensures, c.add_iv.ensures)
