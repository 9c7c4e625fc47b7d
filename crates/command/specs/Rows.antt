-- Refusals as rows, in their order: a number, or the refusal that has it, and whether it is given. The first row that is given refuses.
-- Assumes nothing.
use Rattle.std.specs.Prelude.{Bool, true, false, List, [], ◌∷◌, ℕ, ◌%◌, leb, eqb}
use Rattle.words.specs.Tests.{both, pick}
use Rattle.card_sizes.specs.Sizes.{key_length, full_tray}

pub record RowOf (R : Type 0) : Type 0 where
  pub number : R
  pub given : Bool

abbrev pub Row : Type 0
Row = RowOf ℕ

infix 60 ◌when◌
abbrev pub ◌when◌ : {R : Type 0} → R → Bool → RowOf R
k when b = record { number = k; given = b }

-- what is left where no row is given; `refuse_if` is what one row makes of what comes after it
abbrev pub unless : {R A : Type 0} → (Bool → R → A → A) → List (RowOf R) → A → A
unless refuse_if [] e = e
unless refuse_if (r ∷ rs) e = refuse_if r.given r.number (unless refuse_if rs e)

-- the number of the first row that is given, and 0 where none is
abbrev pub code_of : List Row → ℕ
code_of [] = 0
code_of (r ∷ rs) = pick r.given r.number (code_of rs)

-- the last number of document 01's list, with document 02's, but 255
abbrev pub last_number : ℕ
last_number = 19

-- ---- the commands that a row is about, by their first bytes

abbrev pub either : Bool → Bool → Bool
either true b = true
either false b = b

abbrev pub among : List ℕ → ℕ → Bool
among [] k = false
among (x ∷ l) k = either (eqb k x) (among l k)

-- ---- the tray

-- a length that is a multiple of 32 and at most 8,192
abbrev pub tray_ok : ℕ → Bool
tray_ok n = both (eqb (n % key_length) 0) (leb n full_tray)
