-- `kcipher2_tables::alpha3` meets its contract: the static is the list.
-- Assumes nothing.
use mathlib.Core.Path.{refl}
use Rattle.kcipher2_tables.specs.Tables.{alpha3_list}
use Rattle.kcipher2_tables.proofs.alpha3.Goals as goal

pub returns : goal.returns
unfolding alpha3_list
returns c = refl
