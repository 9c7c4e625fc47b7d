-- The record of an accepted crypt, ten bytes: its line, its cipher, and in eight bytes, most significant first, how many bytes it enciphered.
-- Assumes nothing.
use Rattle.std.specs.Prelude.{List, [], ◌∷◌, ◌++◌, ℕ, zero, suc, ◌+◌, ◌*◌, ◌/◌, ◌%◌, ◌^◌, length, get_or}
use Rattle.words.specs.Strings.{word_at, bytes_of}

-- what a record says
pub record Use : Type 0 where
  pub line : ℕ
  pub cipher : ℕ
  pub bytes : ℕ

-- ---- written

-- a record
unfoldable pub record_of : (line cipher bytes : ℕ) → List ℕ
record_of line cipher bytes = line ∷ cipher ∷ (bytes_of (bytes / 2 ^ 32) ++ bytes_of (bytes % 2 ^ 32))

-- records, one behind the other
unfoldable pub records_of : List Use → List ℕ
records_of [] = []
records_of (u ∷ us) = record_of u.line u.cipher u.bytes ++ records_of us

-- ---- read

-- what the record from byte i on says
unfoldable pub use_at : List ℕ → ℕ → Use
use_at s i = record { line = get_or s i 0; cipher = get_or s (i + 1) 0; bytes = word_at s (i + 2) * 2 ^ 32 + word_at s (i + 6) }

-- what a record says
abbrev pub said : List ℕ → Use
said r = use_at r 0

-- what n records from byte i on say
unfoldable pub uses_at : ℕ → List ℕ → ℕ → List Use
uses_at zero s i = []
uses_at (suc n) s i = use_at s i ∷ uses_at n s (i + 10)

-- what all records of s say
abbrev pub uses : List ℕ → List Use
uses s = uses_at (length s / 10) s 0
