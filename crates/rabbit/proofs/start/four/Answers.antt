-- `rabbit::start::four` meets its contract: four steps.
-- Assumes nothing.
use Rattle.words.specs.Lists.{iter}
use Rattle.rabbit.proofs.start.four.Goals as goal

pub returns : goal.returns
unfolding iter
returns c = rw (c.step-4.ensures, c.step-3.ensures, c.step-2.ensures, c.step.ensures)
