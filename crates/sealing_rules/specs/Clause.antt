-- What 6.2.3 asks of an opening, step by step, with the bound on the search for t; what is a sealing; and a text of which one block was changed.
-- Assumes nothing.
use Rattle.std.specs.Prelude.{◌≡◌, List, ℕ, ◌+◌, ◌-◌, ◌/◌, ◌<◌, length, get_or}
use Rattle.words.specs.Lists.{All, Byte}
use Rattle.blocks.specs.Blocks.{block_at, blocks_of}
use Rattle.multi_s01.specs.Stream.{tries, after}
use Rattle.multi_s01.specs.Multi.{recovered}
use Rattle.sealing_rules.specs.Sealing.{accepted, seal_adds, seal_of}

-- 1) t is the lowest i such that Z_i is not 0, and one of those tried
pub record Multiplier (z : ℕ → ℕ) (t : ℕ) : Type 0 where
  pub tried : t < tries
  pub not-zero : z t ≡ 0 → ⊥
  pub lowest : (i : ℕ) → i < t → z i ≡ 0

-- 2) and 3): P_i of v blocks
abbrev pub block_p : (ℕ → ℕ) → ℕ → List ℕ → ℕ → ℕ
block_p z t s i = get_or (recovered (z t) (after z t) (blocks_of s)) i 0

-- 4) P_(v-2) is Z_(t+v+1), and P_(v-1) is the redundancy
pub record Genuine (z : ℕ → ℕ) (t : ℕ) (r s : List ℕ) : Type 0 where
  pub multiplier : Multiplier z t
  pub padding : block_p z t s (length s / 8 - 2) ≡ z (t + length s / 8 + 1)
  pub redundancy : block_p z t s (length s / 8 - 1) ≡ block_at r 0

-- s is the sealing of the message m
pub record IsSealing (c : ℕ) (key iv r m s : List ℕ) : Type 0 where
  pub bytes : All Byte m
  pub size : length m + seal_adds ≡ length s
  pub sealing : seal_of c key iv r m (length s) ≡ accepted s

-- s' is not s, but as long, and has its bytes outside one block
pub record OneChanged (s s' : List ℕ) : Type 0 where
  pub block : ℕ
  pub size : length s' ≡ length s
  pub rest : (j : ℕ) → (j / 8 ≡ block → ⊥) → get_or s' j 0 ≡ get_or s j 0
  pub changed : s' ≡ s → ⊥
