-- `snow2_tables::alpha` meets its contract: the static is the list.
-- Assumes nothing.
use mathlib.Core.Path.{refl}
use Rattle.snow2_tables.specs.Tables.{alpha_list}
use Rattle.snow2_tables.proofs.alpha.Goals as goal

pub returns : goal.returns
unfolding alpha_list
returns c = refl
