-- A keystream in blocks Z_0, Z_1, .. (document 000, 6.2.3), the first byte of a block the most significant, and the first block that is not 0.
-- Assumes nothing.
use Rattle.std.specs.Prelude.{ℕ, zero, suc, ◌+◌, ◌*◌, eqb}
use Rattle.words.specs.Lists.{tab}
use Rattle.words.specs.Tests.{pick}
use Rattle.blocks.specs.Blocks.{block_at}

-- Z_i of a stream of bytes
unfoldable pub block_of : (ℕ → ℕ) → ℕ → ℕ
block_of f i = block_at (tab 8 (λ j. f (8 * i + j))) 0

-- the lowest i below n such that Z_i is not 0, and n where there is none
unfoldable pub lowest : ℕ → (ℕ → ℕ) → ℕ
lowest zero z = 0
lowest (suc n) z = pick (eqb (z 0) 0) (suc (lowest n (λ i. z (suc i)))) 0

-- how many blocks are tried for the multiplier
abbrev pub tries : ℕ
tries = 4096

-- Z_(t+1), Z_(t+2), ..
abbrev pub after : (ℕ → ℕ) → ℕ → ℕ → ℕ
after z t i = z (t + 1 + i)
