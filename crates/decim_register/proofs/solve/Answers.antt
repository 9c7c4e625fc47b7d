-- `decim_register::solve` meets its contract: the definition, operation for operation.
-- Assumes nothing.
use mathlib.Core.Path.{refl}
use Rattle.decim_register.specs.Wide.{solution}
use Rattle.decim_register.proofs.solve.Goals as goal

pub returns : goal.returns
unfolding solution
returns c = refl
