-- `kcipher2_tables::alpha1` meets its contract: the static is the list.
-- Assumes nothing.
use mathlib.Core.Path.{refl}
use Rattle.kcipher2_tables.specs.Tables.{alpha1_list}
use Rattle.kcipher2_tables.proofs.alpha1.Goals as goal

pub returns : goal.returns
unfolding alpha1_list
returns c = refl
