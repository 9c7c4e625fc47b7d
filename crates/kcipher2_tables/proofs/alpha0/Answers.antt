-- `kcipher2_tables::alpha0` meets its contract: the static is the list.
-- Assumes nothing.
use mathlib.Core.Path.{refl}
use Rattle.kcipher2_tables.specs.Tables.{alpha0_list}
use Rattle.kcipher2_tables.proofs.alpha0.Goals as goal

pub returns : goal.returns
unfolding alpha0_list
returns c = refl
