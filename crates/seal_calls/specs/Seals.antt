-- What the pair that seals and opens records leaves, for programs in C and Rust.
-- Assumes nothing.
use Rattle.std.specs.Prelude.{◌≡◌, Bool, List, [], ◌∷◌, ◌++◌, ℕ, eqb, length, drop}
use Rattle.words.specs.Tests.{both, pick}
use Rattle.card_sizes.specs.Sizes.{key_length, iv_length}
use Rattle.sealing_rules.specs.Sealing.{Outcome, seal_of, unseal_of}

abbrev pub redundancy_length : ℕ
redundancy_length = 8

-- key, IV, redundancy and the array of the bytes written have their lengths
abbrev pub arrays_ok : (key iv redundancy written : ℕ) → Bool
arrays_ok key iv redundancy written = both (eqb key key_length) (both (eqb iv iv_length) (both (eqb redundancy redundancy_length) (eqb written 1)))

-- the code, out and the array of the bytes written
pub record Left : Type 0 where
  pub code : ℕ
  pub out : List ℕ
  pub written : List ℕ

-- what an outcome leaves; where an array has not its length, 255 and all as it was
unfoldable pub left_by : Bool → Outcome → (out written : List ℕ) → Left
left_by ok o out written =
    pick ok (record { code = o.code; out = o.bytes ++ drop (length o.bytes) out; written = length o.bytes ∷ [] })
    (record { code = 255; out = out; written = written })

pub record Told (ok : Bool) (o : Outcome) (out written : List ℕ) (code : ℕ) (out' written' : List ℕ) : Type 0 where
  pub code_is : code ≡ (left_by ok o out written).code
  pub out-is : out' ≡ (left_by ok o out written).out
  pub written_is : written' ≡ (left_by ok o out written).written

-- what the two entries promise
abbrev pub SealPromise : (cipher : ℕ) (key iv redundancy message out written : List ℕ) (code : ℕ) (out' written' : List ℕ) → Type 0
SealPromise c key iv r m out written code out' written' =
    Told (arrays_ok (length key) (length iv) (length r) (length written)) (seal_of c key iv r m (length out)) out written code out' written'

abbrev pub UnsealPromise : (cipher : ℕ) (key iv redundancy sealed out written : List ℕ) (code : ℕ) (out' written' : List ℕ) → Type 0
UnsealPromise c key iv r s out written code out' written' =
    Told (arrays_ok (length key) (length iv) (length r) (length written)) (unseal_of c key iv r s (length out)) out written code out' written'
