-- The constant tables of the ciphers as text: sixteen entries to a line, single spaces between them.
-- Assumes nothing.
use Rattle.std.specs.Prelude.{List, [], ◌∷◌, ◌++◌, ℕ, suc, ◌%◌, eqb}
use Rattle.words.specs.Tests.{pick}
use Rattle.field.specs.Tables.{sub_list}
use Rattle.snow2_tables.specs.Tables.{alpha_list, inverse_list}
use Rattle.kcipher2_tables.specs.Tables.{alpha0_list, alpha1_list, alpha2_list, alpha3_list}
use Rattle.text.specs.Text.{space, newline}
use Rattle.hex_text.specs.Hex.{hexadecimal}

-- the byte behind entry i
unfoldable pub behind_entry : ℕ → ℕ
behind_entry i = pick (eqb (i % 16) 15) newline space

-- an entry in w digits and the byte behind it
abbrev pub entry_text : ℕ → ℕ → ℕ → List ℕ
entry_text w n end = hexadecimal w n ++ (end ∷ [])

-- entries in w digits, the first numbered i
unfoldable pub entries_from : ℕ → ℕ → List ℕ → List ℕ
entries_from w i [] = []
entries_from w i (x ∷ t) = entry_text w x (behind_entry i) ++ entries_from w (suc i) t

abbrev pub table_text : ℕ → List ℕ → List ℕ
table_text w t = entries_from w 0 t

-- SUB in bytes; αMUL and αinv_MUL of SNOW 2.0, αMUL0 to αMUL3 of KCipher-2 in words
unfoldable pub tables_text : List ℕ
tables_text =
    table_text 2 sub_list
    ++ table_text 8 alpha_list ++ table_text 8 inverse_list
    ++ table_text 8 alpha0_list ++ table_text 8 alpha1_list ++ table_text 8 alpha2_list ++ table_text 8 alpha3_list
