-- The cases of document 01 as one table: each row has what the definitions compute, and the value that the document states.
-- Assumes nothing.
use Rattle.std.specs.Prelude.{List, [], ◌∷◌, ℕ, ◌-◌, ◌^◌, get_or, replicate}
use Rattle.field.specs.Gf32.{times, alpha}
use Rattle.field.specs.Aes.{fn_t}
use Rattle.zuc_tables.specs.Tables.{sub1, sub2}
use Rattle.zuc.specs.Cipher.{cell as zuc_cell, loaded as zuc_loaded, fed as zuc_fed, l1, l2}
use Rattle.zuc.specs.declared.Zuc.{Zuc}
use Rattle.rabbit.specs.Cipher.{g}
use Rattle.snow2_tables.specs.Tables.{field}
use Rattle.snow2.specs.Cipher.{cell as snow_cell, loaded128}
use Rattle.snow2.specs.declared.Snow2.{Snow2}

pub record Row : Type 0 where
  pub computed : ℕ
  pub stated : ℕ

infix 60 ◌is◌
abbrev pub ◌is◌ : ℕ → ℕ → Row
a is b = record { computed = a; stated = b }

-- a ZUC state whose cells are all 2^31 - 1
abbrev pub full : Zuc
full = record { a = replicate 16 (2 ^ 31 - 1); r1 = 0; r2 = 0 }

-- SNOW 2.0 with the key 80 then fifteen 00, and the IV words 4, 3, 2, 1
abbrev pub snow : Snow2
snow = loaded128 (0x80 ∷ replicate 15 0) (0 ∷ 0 ∷ 0 ∷ 4 ∷ 0 ∷ 0 ∷ 0 ∷ 3 ∷ 0 ∷ 0 ∷ 0 ∷ 2 ∷ 0 ∷ 0 ∷ 0 ∷ 1 ∷ [])

unfoldable pub table : List Row
table =
    -- SUB1 and SUB2, first and last
    (get_or sub1 0 0 is 0x3e)
    ∷ (get_or sub1 255 0 is 0x60)
    ∷ (get_or sub2 0 0 is 0x55)
    ∷ (get_or sub2 255 0 is 0xf2)
    -- ZUC: cell 0 of zero key and IV, cell 15 of all-ff key and IV, the feedback of full cells, L1(1) and L2(1)
    ∷ (zuc_cell (zuc_loaded (replicate 16 0) (replicate 16 0)) 0 is 0x0044d700)
    ∷ (zuc_cell (zuc_loaded (replicate 16 0xff) (replicate 16 0xff)) 15 is 0x7fc7acff)
    ∷ (zuc_fed full is 2 ^ 31 - 1)
    ∷ (l1 1 is 0x01040405)
    ∷ (l2 1 is 0x40404101)
    -- Rabbit's g
    ∷ (g 0xffffffff 0 is 0xffffffff)
    ∷ (g 0xffffffff 1 is 0)
    -- SNOW 2.0: T(0), α·00000001, and the loaded words s15, s12, s10 and s9
    ∷ (fn_t 0 is 0x63636363)
    ∷ (times field alpha 1 is 0x100)
    ∷ (snow_cell snow 15 is 0x80000001)
    ∷ (snow_cell snow 12 is 2)
    ∷ (snow_cell snow 10 is 0xfffffffc)
    ∷ (snow_cell snow 9 is 0xfffffffb)
    ∷ []
