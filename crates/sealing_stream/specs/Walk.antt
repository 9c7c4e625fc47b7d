-- A walk along the keystream of S(0) of a cipher: at a byte of it, a text crypted from there on, the next block, and the first that is not 0.
-- Assumes nothing.
use Rattle.std.specs.Prelude.{◌≡◌, List, Option, ◌++◌, ℕ, ◌+◌, ◌*◌, ◌/◌, ◌%◌, ◌<◌, length, drop, MatchOption}
use Rattle.keystream.specs.Stream.{state_at, xor_from}
use Rattle.command.specs.Decode.{number_of}
use Rattle.ciphers.specs.Table.{cipher_at}
use Rattle.multi_s01.specs.Stream.{lowest, tries}
use Rattle.sealing_rules.specs.Sealing.{stream_bytes, blocks_from}
use Rattle.sealing_stream.specs.declared.Walk.{Walk}
use Rattle.sealing_stream.specs.declared.Found.{Found}

-- w stands at byte n: it holds the state of the unit in which the byte lies, and the byte's place there
pub record At (c : ℕ) (s : List ℕ) (n : ℕ) (w : Walk) : Type 0 where
  pub cipher : number_of w.cipher ≡ c
  pub state : w.words ≡ state_at (cipher_at c).gen s 0 (n / (cipher_at c).gen.unit)
  pub place : w.skip ≡ n % (cipher_at c).gen.unit

-- a text was crypted from byte n on
pub record Crypted (c : ℕ) (s : List ℕ) (n : ℕ) (text out : List ℕ) (w' : Walk) (out' : List ℕ) : Type 0 where
  pub stands : At c s (n + length text) w'
  pub bytes : out' ≡ xor_from (stream_bytes c s) n text ++ drop (length text) out

-- x is block i
pub record Read (c : ℕ) (s : List ℕ) (i x : ℕ) (w' : Walk) : Type 0 where
  pub stands : At c s (8 * (i + 1)) w'
  pub block : x ≡ blocks_from c s i

-- f has the index of the first block that is not 0, which is one of those tried, and the block
pub record First (c : ℕ) (s : List ℕ) (f : Found) (w' : Walk) : Type 0 where
  pub tried : f.t < tries
  pub index : f.t ≡ lowest tries (blocks_from c s)
  pub stands : At c s (8 * (f.t + 1)) w'
  pub block : f.a ≡ blocks_from c s f.t

-- ---- what the functions leave, for the keystream of any S(0) at a byte of which the walk stands

pub record CryptsOn (w : Walk) (text out : List ℕ) (w' : Walk) (out' : List ℕ) : Type 0 where
  pub crypted : (c : ℕ) (s : List ℕ) (n : ℕ) → At c s n w → Crypted c s n text out w' out'

pub record ReadsNext (w : Walk) (x : ℕ) (w' : Walk) : Type 0 where
  pub read : (c : ℕ) (s : List ℕ) (i : ℕ) → At c s (8 * i) w → Read c s i x w'
  pub on : (c : ℕ) (s : List ℕ) (n : ℕ) → At c s n w → At c s (n + 8) w'

-- the first block that is not 0, from the start of a keystream on; none where all those tried are 0, and the walk then stands behind them
pub record Finds (w : Walk) (r : Option Found) (w' : Walk) : Type 0 where
  pub found : (c : ℕ) (s : List ℕ) → At c s 0 w → MatchOption r ((lowest tries (blocks_from c s) ≡ tries) × At c s (8 * tries) w') (λ f. First c s f w')
