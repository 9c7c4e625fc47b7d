-- `snow2_tables::inverse` meets its contract: the static is the list.
-- Assumes nothing.
use mathlib.Core.Path.{refl}
use Rattle.snow2_tables.specs.Tables.{inverse_list}
use Rattle.snow2_tables.proofs.inverse.Goals as goal

pub returns : goal.returns
unfolding inverse_list
returns c = refl
