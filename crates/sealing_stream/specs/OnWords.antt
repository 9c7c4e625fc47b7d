-- A walk along the keystream of S(0) of a cipher over borrowed words: words that hold the state at a byte, a text crypted from there on, the next block,
-- and the first that is not 0.
-- Assumes nothing.
use Rattle.std.specs.Prelude.{◌≡◌, List, ◌++◌, ℕ, ◌+◌, ◌*◌, ◌/◌, ◌%◌, ◌<◌, length, drop}
use Rattle.keystream.specs.Stream.{state_at, xor_from}
use Rattle.ciphers.specs.Table.{cipher_at}
use Rattle.ciphers.specs.Fit.{Fit}
use Rattle.multi_s01.specs.Stream.{lowest, tries}
use Rattle.sealing_rules.specs.Sealing.{stream_bytes, blocks_from}
use Rattle.command.specs.Decode.{number_of}
use Rattle.sealing_stream.specs.declared.Walk.{Walk}

-- w holds the state of the unit in which byte n lies
pub record At (c : ℕ) (s : List ℕ) (n : ℕ) (w : List ℕ) : Type 0 where
  pub fit : Fit (cipher_at c) w
  pub state : w ≡ state_at (cipher_at c).gen s 0 (n / (cipher_at c).gen.unit)

-- a text was crypted from byte n on
pub record Crypted (c : ℕ) (s : List ℕ) (n : ℕ) (text out w' out' : List ℕ) : Type 0 where
  pub stands : At c s (n + length text) w'
  pub bytes : out' ≡ xor_from (stream_bytes c s) n text ++ drop (length text) out

-- x is block i
pub record Read (c : ℕ) (s : List ℕ) (i x : ℕ) (w' : List ℕ) : Type 0 where
  pub stands : At c s (8 * (i + 1)) w'
  pub block : x ≡ blocks_from c s i

-- t is the index of the first block that is not 0, which is a
pub record First (c : ℕ) (s : List ℕ) (t a : ℕ) (w' : List ℕ) : Type 0 where
  pub index : t ≡ lowest tries (blocks_from c s)
  pub stands : t < tries → At c s (8 * (t + 1)) w'
  pub block : t < tries → a ≡ blocks_from c s t

-- ---- what the functions leave, for the keystream of any S(0) on which the words stand

pub record CryptsOn (c n : ℕ) (w text out w' out' : List ℕ) : Type 0 where
  pub crypted : (s : List ℕ) → At c s n w → Crypted c s n text out w' out'
  pub fit : Fit (cipher_at c) w'

pub record ReadsNext (c i : ℕ) (w : List ℕ) (x : ℕ) (w' : List ℕ) : Type 0 where
  pub read : (s : List ℕ) → At c s (8 * i) w → Read c s i x w'
  pub fit : Fit (cipher_at c) w'

pub record Finds (c : ℕ) (s : List ℕ) (t a : ℕ) (w' : List ℕ) : Type 0 where
  pub found : First c s t a w'
  pub fit : Fit (cipher_at c) w'

-- a walk at byte n that has the words w
pub record Lent (c : ℕ) (w : List ℕ) (n : ℕ) (v : Walk) : Type 0 where
  pub cipher : number_of v.cipher ≡ c
  pub words : v.words ≡ w
  pub skip : v.skip ≡ n % (cipher_at c).gen.unit
