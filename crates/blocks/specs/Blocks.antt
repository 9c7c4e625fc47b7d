-- Blocks of 64 bits and their words, and the blocks that stand in strings of bytes, the first byte of a block the most significant.
-- Assumes nothing.
use Rattle.std.specs.Prelude.{List, [], ◌∷◌, ◌++◌, ℕ, ◌+◌, ◌*◌, ◌/◌, ◌%◌, ◌<◌, ◌^◌, length}
use Rattle.words.specs.Lists.{tab}
use Rattle.words.specs.Strings.{word_at, bytes_of}

-- x is a block
abbrev pub Block : ℕ → Type 0
Block x = x < 2 ^ 64

-- a block of two words, and its left and right word
abbrev pub block : ℕ → ℕ → ℕ
block l r = l * 2 ^ 32 + r

abbrev pub left : ℕ → ℕ
left x = x / 2 ^ 32

abbrev pub right : ℕ → ℕ
right x = x % 2 ^ 32

-- the block whose first byte, the most significant, is byte i of s
unfoldable pub block_at : List ℕ → ℕ → ℕ
block_at s i = block (word_at s i) (word_at s (i + 4))

-- the bytes of a block
unfoldable pub spell : ℕ → List ℕ
spell x = bytes_of (left x) ++ bytes_of (right x)

-- the blocks of a string, as many as are whole, and the bytes of blocks
unfoldable pub blocks_of : List ℕ → List ℕ
blocks_of s = tab (length s / 8) (λ i. block_at s (8 * i))

abbrev pub spelled : List ℕ → List ℕ
spelled [] = []
spelled (x ∷ l) = spell x ++ spelled l
