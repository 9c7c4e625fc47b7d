-- The sums of a conference (document 02, (xii)): samples of 16 bits, big-endian and signed, added up and then clamped once to 16 bits.
-- Assumes nothing.
use Rattle.std.specs.Prelude.{ℕ, zero, suc, ◌+◌, ◌-◌, ◌*◌, ◌/◌, ◌%◌, ◌^◌, ◌<◌, ◌≤◌, min, ◌≡◌, List, [], ◌∷◌, ltb, length, get_or}
use Rattle.words.specs.Tests.{pick}

-- the number in bytes i and i + 1
abbrev pub two_at : List ℕ → ℕ → ℕ
two_at s i = get_or s i 0 * 256 + get_or s (i + 1) 0

-- sample j of a talk, 32,768 higher, so that none is below 0
abbrev pub raised : List ℕ → ℕ → ℕ
raised t j = (two_at t (2 * j) + 2 ^ 15) % 2 ^ 16

abbrev pub raised_sum : List (List ℕ) → ℕ → ℕ
raised_sum [] j = 0
raised_sum (t ∷ ts) j = raised t j + raised_sum ts j

-- the sum of samples j of some talks, clamped, in its 16 bits
abbrev pub sum_at : List (List ℕ) → ℕ → ℕ
sum_at ts j = (min (2 ^ 16 - 1) (raised_sum ts j + 2 ^ 15 - 2 ^ 15 * length ts) + 2 ^ 15) % 2 ^ 16

-- the sums of samples j, j + 1, .., s of them
abbrev pub sums_from : (s j : ℕ) → List (List ℕ) → List ℕ
sums_from zero j ts = []
sums_from (suc s) j ts = sum_at ts j / 256 ∷ sum_at ts j % 256 ∷ sums_from s (suc j) ts

-- all talks but the k-th
abbrev pub without : ℕ → List (List ℕ) → List (List ℕ)
without k [] = []
without zero (t ∷ ts) = ts
without (suc k) (t ∷ ts) = t ∷ without k ts

-- what the k-th member is sent of talks of n bytes: the clamped sums of the others
unfoldable pub mix_for : ℕ → List (List ℕ) → ℕ → List ℕ
mix_for n talks k = sums_from (n / 2) 0 (without k talks)

-- ---- a clamped sum, by what is above and what is below zero

-- a sample of 16 bits is up - down: below 2^15 it is itself, and from there on it is 2^16 less
abbrev pub up : ℕ → ℕ
up x = pick (ltb x (2 ^ 15)) x 0

abbrev pub down : ℕ → ℕ
down x = pick (ltb x (2 ^ 15)) 0 (2 ^ 16 - x)

-- of samples j of some talks, together
abbrev pub ups : List (List ℕ) → ℕ → ℕ
ups [] j = 0
ups (t ∷ ts) j = up (two_at t (2 * j)) + ups ts j

abbrev pub downs : List (List ℕ) → ℕ → ℕ
downs [] j = 0
downs (t ∷ ts) j = down (two_at t (2 * j)) + downs ts j

-- The sum of samples j: ups - downs, or the end of the range that it is past.
pub record ClampedSum (ts : List (List ℕ)) (j : ℕ) : Type 0 where
  pub inside : downs ts j ≤ ups ts j + 2 ^ 15 → ups ts j < downs ts j + 2 ^ 15 → up (sum_at ts j) + downs ts j ≡ down (sum_at ts j) + ups ts j
  -- 32,767
  pub above : downs ts j + 2 ^ 15 ≤ ups ts j → sum_at ts j ≡ 2 ^ 15 - 1
  -- -32,768
  pub below : ups ts j + 2 ^ 15 < downs ts j → sum_at ts j ≡ 2 ^ 15
