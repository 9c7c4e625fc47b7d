-- `mugi_tables::mixing` meets its contract: the table is the list.
-- Assumes nothing.
use mathlib.Core.Path.{refl}
use Rattle.mugi_tables.specs.Tables.{mixing_list}
use Rattle.mugi_tables.proofs.mixing.Goals as goal

pub returns : goal.returns
unfolding mixing_list
returns c = refl
