-- `kcipher2_tables::alpha2` meets its contract: the static is the list.
-- Assumes nothing.
use mathlib.Core.Path.{refl}
use Rattle.kcipher2_tables.specs.Tables.{alpha2_list}
use Rattle.kcipher2_tables.proofs.alpha2.Goals as goal

pub returns : goal.returns
unfolding alpha2_list
returns c = refl
