-- Numbers as text, in decimal with no zeros in front, and text in a buffer.
-- Assumes nothing.
use Rattle.std.specs.Prelude.{◌≡◌, List, [], ◌∷◌, ◌++◌, ℕ, zero, suc, ◌+◌, ◌/◌, ◌%◌, ◌≤◌, ltb, length, take, drop}
use Rattle.words.specs.Tests.{pick}
use Rattle.text.specs.declared.Text.{Text}

-- ---- numbers

-- the digits of n, which are k at most, most significant first, in ASCII
unfoldable pub digits_of : ℕ → ℕ → List ℕ
digits_of zero n = []
digits_of (suc k) n = pick (ltb n 10) ((48 + n) ∷ []) (digits_of k (n / 10) ++ ((48 + n % 10) ∷ []))

-- a number below 10^20, as every one of 64 bits is
abbrev pub decimal : ℕ → List ℕ
decimal n = digits_of 20 n

-- a figure and the byte behind it
abbrev pub figure : ℕ → ℕ → List ℕ
figure n end = decimal n ++ (end ∷ [])

abbrev pub space : ℕ
space = 32

abbrev pub newline : ℕ
newline = 10

-- ---- text in a buffer

-- out is before with p behind its first at bytes, up to r; what is behind p stays
pub record Behind (p : List ℕ) (at : ℕ) (before out : List ℕ) (r : ℕ) : Type 0 where
  pub end : r ≡ at + length p
  pub fits : r ≤ length before
  pub is : out ≡ (take at before ++ p) ++ drop r before

-- there is room for k bytes behind a text
abbrev pub Room : ℕ → Text → Type 0
Room k t = t.len + k ≤ length t.out.now

-- p was put behind a text, in the same buffer
pub record Written (p : List ℕ) (old new : Text) : Type 0 where
  pub same : new.out.ghost_name ≡ old.out.ghost_name
  pub behind : Behind p old.len old.out.now new.out.now new.len
