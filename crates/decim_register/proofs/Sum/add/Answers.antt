-- `decim_register::Sum::add` meets its contract: the definition, operation for operation.
-- Assumes nothing.
use mathlib.Core.Path.{refl}
use Rattle.decim_register.specs.Wide.{added}
use Rattle.decim_register.proofs.Sum.add.Goals as goal

pub returns : goal.returns
unfolding added
returns c = refl
