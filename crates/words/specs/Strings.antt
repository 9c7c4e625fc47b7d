-- Strings of bytes, and the words that stand in them.
-- Assumes nothing.
use Rattle.std.specs.Prelude.{List, [], ◌∷◌, ℕ, ◌+◌, get_or}
use Rattle.words.specs.Word.{word, b0, b1, b2, b3}

-- the word whose first byte, the most significant, is byte i of s
unfoldable pub word_at : List ℕ → ℕ → ℕ
word_at s i = word (get_or s i 0) (get_or s (i + 1) 0) (get_or s (i + 2) 0) (get_or s (i + 3) 0)

-- four words in a row
unfoldable pub four_at : List ℕ → ℕ → List ℕ
four_at s i = word_at s i ∷ word_at s (i + 4) ∷ word_at s (i + 8) ∷ word_at s (i + 12) ∷ []

-- the bytes of a word, most significant first
unfoldable pub bytes_of : ℕ → List ℕ
bytes_of w = b3 w ∷ b2 w ∷ b1 w ∷ b0 w ∷ []

-- the bytes of a word, least significant first
unfoldable pub bytes_up : ℕ → List ℕ
bytes_up w = b0 w ∷ b1 w ∷ b2 w ∷ b3 w ∷ []
