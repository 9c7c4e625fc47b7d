-- `rabbit::Rabbit::init` meets its contract: the key's state, with the IV in it, after five steps.
-- Assumes nothing.
use Rattle.rabbit.specs.Cipher.{master, started, init}
use Rattle.rabbit.proofs.Rabbit.init.Goals as goal

pub returns : goal.returns
unfolding master started init
returns c = rw (c.step.ensures, c.four-2.ensures, c.add_iv.ensures, c.four.ensures, c.load.ensures)
