-- How the sums are worked out in place: sample by sample, of each sample the total of all members first, and then in each member's place the total without its own.
-- Assumes nothing.
use Rattle.std.specs.Prelude.{List, ℕ, zero, suc, ◌+◌, ◌-◌, ◌*◌, ◌/◌, ◌%◌, ◌^◌, min, set}
use Rattle.card_mix.specs.Sums.{two_at}

-- the sample at byte i, 32,768 higher
unfoldable pub raised_at : List ℕ → ℕ → ℕ
raised_at l i = (two_at l i + 2 ^ 15) % 2 ^ 16

-- a sum of so many samples, each 32,768 higher, clamped, in its 16 bits
unfoldable pub clamped_sum : (sum count : ℕ) → ℕ
clamped_sum sum count = (min (2 ^ 16 - 1) (sum + 2 ^ 15 - 2 ^ 15 * count) + 2 ^ 15) % 2 ^ 16

unfoldable pub stored : List ℕ → ℕ → ℕ → List ℕ
stored l i x = set (set l i (x / 256)) (i + 1) (x % 256)

-- the samples at byte at of the first k parts of n bytes, in all
abbrev pub total_at : (k n at : ℕ) → List ℕ → ℕ
total_at zero n at l = 0
total_at (suc k) n at l = total_at k n at l + raised_at l (k * n + at)

-- of the first k members
abbrev pub shared_out : (k n at total others : ℕ) → List ℕ → List ℕ
shared_out zero n at total others l = l
shared_out (suc k) n at total others l =
    stored (shared_out k n at total others l) (k * n + at) (clamped_sum (total - raised_at (shared_out k n at total others l) (k * n + at)) others)

-- one sample of all members
unfoldable pub column_of : (m n at : ℕ) → List ℕ → List ℕ
column_of m n at l = shared_out m n at (total_at m n at l) (m - 1) l

-- the first j samples
abbrev pub columns_of : (j m n : ℕ) → List ℕ → List ℕ
columns_of zero m n l = l
columns_of (suc j) m n l = column_of m n (2 * j) (columns_of j m n l)
