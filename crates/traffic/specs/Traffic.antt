-- What records come to: the bytes of those that pass a test, summed; and which records no sheet is made of, with the numbers 20 to 22.
-- Assumes nothing.
use Rattle.std.specs.Prelude.{◌≡◌, Bool, true, false, not, List, [], ◌∷◌, ℕ, zero, suc, ◌+◌, ◌%◌, ◌^◌, eqb, leb, ltb, length, Option, Some, None, Result, Ok, Err}
use Rattle.words.specs.Tests.{pick}
use Rattle.command.specs.Rows.{Row, ◌when◌, either}
use Rattle.ciphers.specs.Table.{is_cipher}
use Rattle.records.specs.Records.{Use, uses}
use Rattle.traffic.specs.declared.Column.{Column}
use Rattle.traffic.specs.declared.Column.TheVariants.{Line, Cipher}
use Rattle.traffic.specs.declared.SheetRefusal.{SheetRefusal}
use Rattle.traffic.specs.declared.SheetRefusal.TheVariants.{Length, Unknown, Total}

-- ---- sums

-- the bytes of the records that pass a test, summed
unfoldable pub sum_of : (Use → Bool) → List Use → ℕ
sum_of p [] = 0
sum_of p (u ∷ us) = pick (p u) u.bytes 0 + sum_of p us

-- the records of line i
abbrev pub on_line : ℕ → Use → Bool
on_line i u = eqb u.line i

-- those of cipher c
abbrev pub by_cipher : ℕ → Use → Bool
by_cipher c u = eqb u.cipher c

-- and all
abbrev pub every : Use → Bool
every u = true

-- ---- refusals

-- a line or a cipher that there is not
unfoldable pub unknown : Use → Bool
unknown u = either (ltb 7 u.line) (not (is_cipher u.cipher))

unfoldable pub any_unknown : List Use → Bool
any_unknown [] = false
any_unknown (u ∷ us) = either (unknown u) (any_unknown us)

-- the refusals, in their order
abbrev pub sheet_rows : List ℕ → List Row
sheet_rows s =
    -- no whole number of records, or over 4,096
    (20 when either (not (eqb (length s % 10) 0)) (ltb 40960 (length s)))
    ∷ (21 when any_unknown (uses s))
    ∷ (22 when leb (2 ^ 64) (sum_of every (uses s)))
    ∷ []

-- ---- what the code promises

-- records by what stands in a column: 0 is the line, 1 the cipher
abbrev pub in_column : ℕ → ℕ → Use → Bool
in_column zero = on_line
in_column (suc c) = by_cipher

-- the column's number
abbrev pub column_number : Column → ℕ
column_number Line = 0
column_number Cipher = 1

-- what stands in it
abbrev pub column_value : Column → Use → ℕ
column_value Line u = u.line
column_value Cipher u = u.cipher

-- a sum, where it is below 2^64
abbrev pub total_of : ℕ → Option ℕ
total_of all = pick (leb (2 ^ 64) all) None (Some all)

-- the number of a refusal, and 0 of a total
abbrev pub sheet_number : SheetRefusal → ℕ
sheet_number Length = 20
sheet_number Unknown = 21
sheet_number Total = 22

abbrev pub code_given : {A : Type 0} → Result A SheetRefusal → ℕ
code_given (Ok _) = 0
code_given (Err r) = sheet_number r
