-- `rabbit_tables::a` meets its contract: the table is the list.
-- Assumes nothing.
use mathlib.Core.Path.{refl}
use Rattle.rabbit_tables.specs.Tables.{a_list}
use Rattle.rabbit_tables.proofs.a.Goals as goal

pub returns : goal.returns
unfolding a_list
returns c = refl
