-- The constants of Rabbit (document 002, 7.3.3, step 1, with document 01's A7).
-- Assumes nothing.
use Rattle.std.specs.Prelude.{List, [], ◌∷◌, ℕ}

-- A0..A7
unfoldable pub a_list : List ℕ
a_list = 0x4d34d34d ∷ 0xd34d34d3 ∷ 0x34d34d34 ∷ 0x4d34d34d ∷ 0xd34d34d3 ∷ 0x34d34d34 ∷ 0x4d34d34d ∷ 0xd34d34d3 ∷ []
