-- The constant table of the source, by its rule.
-- Assumes nothing.
use Rattle.std.specs.Prelude.{List, ℕ, ◌/◌, ◌%◌}
use Rattle.words.specs.Lists.{tab}
use Rattle.decim_tables.specs.Absg.{entry_of}

-- ABSG over four fk, for T from 0 to 7, sixteen entries each
unfoldable pub absg_list : List ℕ
absg_list = tab 128 (λ i. entry_of (i / 16) (i % 16))
