-- What the steps of the pair leave, each of its own part of 6.2.3, for the keystream of any S(0) along which the walk goes.
-- Assumes nothing.
use Rattle.std.specs.Prelude.{◌≡◌, List, ◌++◌, ℕ, ◌+◌, ◌/◌, ◌%◌, ◌≤◌, length, drop}
use Rattle.words.specs.Word.{◌⊕◌}
use Rattle.blocks.specs.Blocks.{block_at, blocks_of, spelled}
use Rattle.multi_s01.specs.Stream.{after}
use Rattle.multi_s01.specs.Multi.{padded, recovered}
use Rattle.multi_s01.specs.Chains.{summed}

-- a redundancy and a message that may be sealed, and room for it
pub record Sized (r m : List ℕ) (room : ℕ) : Type 0 where
  pub redundancy : length r ≡ 8
  pub most : length m ≤ 16384
  pub whole : length m % 8 ≡ 0
  pub fits : length m + 16 ≤ room

-- a redundancy and a sealed message that may be opened, and room for the message
pub record Openable (r x : List ℕ) (room : ℕ) : Type 0 where
  pub redundancy : length r ≡ 8
  pub least : 16 ≤ length x
  pub most : length x ≤ 16400
  pub whole : length x % 8 ≡ 0
  pub fits : length x ≤ room + 16

-- a sealed message that may be recovered, and room for all of it
pub record Holdable (x held : List ℕ) : Type 0 where
  pub most : length x ≤ 16400
  pub whole : length x % 8 ≡ 0
  pub fits : length x ≤ length held

-- W_u and W_(u+1), where i is t + u + 1
pub record Ends (z : ℕ → ℕ) (i : ℕ) (r : List ℕ) (p q : ℕ) : Type 0 where
  pub padding-is : p ≡ z (i + 2) ⊕ z i
  pub redundancy-is : q ≡ block_at r 0 ⊕ z (i + 1)

-- W_0, .., W_(u+1) stand at the start of out
pub record Sums (z : ℕ → ℕ) (t : ℕ) (r m out out' : List ℕ) : Type 0 where
  pub bytes : out' ≡ spelled (summed (after z t) (padded (after z t) (block_at r 0) (blocks_of m))) ++ drop (length m + 16) out

-- P_0, .., P_(v-1) stand at the start of held, and the block is Z_(t+v+1)
pub record Recovers (z : ℕ → ℕ) (t a : ℕ) (x held : List ℕ) (block : ℕ) (held' : List ℕ) : Type 0 where
  pub behind : block ≡ after z t (length x / 8)
  pub bytes : held' ≡ spelled (recovered a (after z t) (blocks_of x)) ++ drop (length x) held
