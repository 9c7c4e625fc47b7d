-- A number as text, in hexadecimal with lower-case digits.
-- Assumes nothing.
use Rattle.std.specs.Prelude.{List, [], ◌∷◌, ◌++◌, ℕ, zero, suc, ◌+◌, ◌-◌, ◌/◌, ◌%◌, ltb}
use Rattle.words.specs.Tests.{pick}

-- a digit below 16 in ASCII: 0 to 9, then a to f
unfoldable pub digit_of : ℕ → ℕ
digit_of d = pick (ltb d 10) (48 + d) (97 + (d - 10))

-- the last w digits of n, most significant first
unfoldable pub hexadecimal : ℕ → ℕ → List ℕ
hexadecimal zero n = []
hexadecimal (suc w) n = hexadecimal w (n / 16) ++ (digit_of (n % 16) ∷ [])
