-- Sealed call records: MULTI-S01 (document 000, 6.2.3) over any of the ciphers, on strings of bytes, with the checks before it. A key, an IV and a
-- redundancy have 32, 16 and 8 bytes.
-- Assumes nothing.
use Rattle.std.specs.Prelude.{Bool, true, false, not, List, [], ◌∷◌, ℕ, zero, suc, ◌+◌, ◌-◌, ◌%◌, leb, ltb, eqb, length}
use Rattle.words.specs.Tests.{both}
use Rattle.keystream.specs.Stream.{byte_at}
use Rattle.ciphers.specs.Table.{cipher_at, is_cipher}
use Rattle.command.specs.Rows.{Row, ◌when◌, code_of}
use Rattle.machine.specs.Machine.{stream_of, spare_used, blank_key}
use Rattle.blocks.specs.Blocks.{block_at, blocks_of, spelled}
use Rattle.multi_s01.specs.Stream.{block_of, lowest, tries, after}
use Rattle.multi_s01.specs.Multi.{sealed, genuine, message}

-- what is answered: a number, which is 0 where it is accepted, and the bytes that are written
pub record Outcome : Type 0 where
  pub code : ℕ
  pub bytes : List ℕ

abbrev pub refused : ℕ → Outcome
refused k = record { code = k; bytes = [] }

abbrev pub accepted : List ℕ → Outcome
accepted l = record { code = 0; bytes = l }

unfoldable pub refused_where : Bool → ℕ → Outcome → Outcome
refused_where true k o = refused k
refused_where false k o = o

-- ---- the checks before the keystream

-- the longest message, and what sealing adds to it
abbrev pub longest : ℕ
longest = 16384

abbrev pub seal_adds : ℕ
seal_adds = 16

-- a length that a message may have, and one that a sealed message has
abbrev pub message_ok : ℕ → Bool
message_ok n = both (leb n longest) (eqb (n % 8) 0)

abbrev pub sealed_ok : ℕ → Bool
sealed_ok n = both (leb seal_adds n) (message_ok (n - seal_adds))

-- the refusals, in their order, where `ok` says that the length is right and `need` how many bytes are to be written
abbrev pub checks : (ok : Bool) (c : ℕ) (key iv : List ℕ) (need room : ℕ) → List Row
checks ok c key iv need room =
    -- no message, or no sealed message, has this length
    (23 when not ok)
    -- no cipher has the number
    ∷ (4 when not (is_cipher c))
    -- a key or IV byte beyond the cipher's length is not 0
    ∷ (7 when spare_used c key iv)
    -- key all zero
    ∷ (16 when blank_key c key)
    -- out shorter than what is to be written
    ∷ (12 when ltb room need)
    ∷ []

-- the number of the first that is given, and 0 where none is
unfoldable pub check_of : (ok : Bool) (c : ℕ) (key iv : List ℕ) (need room : ℕ) → ℕ
check_of ok c key iv need room = code_of (checks ok c key iv need room)

abbrev pub seal_check : (c : ℕ) (key iv message : List ℕ) (room : ℕ) → ℕ
seal_check c key iv m room = check_of (message_ok (length m)) c key iv (length m + seal_adds) room

abbrev pub open_check : (c : ℕ) (key iv sealed : List ℕ) (room : ℕ) → ℕ
open_check c key iv s room = check_of (sealed_ok (length s)) c key iv (length s - seal_adds) room

-- ---- 6.2.3 over a keystream of blocks z

-- b), with t as found: the sealed bytes
unfoldable pub sealed_with : (ℕ → ℕ) → ℕ → (redundancy message : List ℕ) → List ℕ
sealed_with z t r m = spelled (sealed (z t) (after z t) (block_at r 0) (blocks_of m))

-- c), with t as found: whether redundancy and padding are right, and the message's bytes
unfoldable pub genuine_with : (ℕ → ℕ) → ℕ → (redundancy sealed : List ℕ) → Bool
genuine_with z t r s = genuine (z t) (after z t) (block_at r 0) (blocks_of s)

unfoldable pub message_with : (ℕ → ℕ) → ℕ → (sealed : List ℕ) → List ℕ
message_with z t s = spelled (message (z t) (after z t) (blocks_of s))

-- t, or that none of the blocks tried will do
abbrev pub multiplier : (ℕ → ℕ) → ℕ
multiplier z = lowest tries z

abbrev pub no_multiplier : (ℕ → ℕ) → Bool
no_multiplier z = eqb (multiplier z) tries

unfoldable pub seal_by : (ℕ → ℕ) → (redundancy message : List ℕ) → Outcome
seal_by z r m = refused_where (no_multiplier z) 24 (accepted (sealed_with z (multiplier z) r m))

unfoldable pub open_by : (ℕ → ℕ) → (redundancy sealed : List ℕ) → Outcome
open_by z r s =
    refused_where (no_multiplier z) 24
    (refused_where (not (genuine_with z (multiplier z) r s)) 24
    (accepted (message_with z (multiplier z) s)))

-- ---- the pair

-- the keystream of S(0) of a cipher, its bytes and its blocks
abbrev pub stream_bytes : ℕ → List ℕ → ℕ → ℕ
stream_bytes c s = byte_at (cipher_at c).gen s 0

abbrev pub blocks_from : ℕ → List ℕ → ℕ → ℕ
blocks_from c s = block_of (stream_bytes c s)

-- Z_0, Z_1, .. of key and IV
abbrev pub key_blocks : ℕ → List ℕ → List ℕ → ℕ → ℕ
key_blocks c key iv = blocks_from c (stream_of c key iv)

-- a number that is not 0 refuses
unfoldable pub past : ℕ → Outcome → Outcome
past zero o = o
past (suc k) o = refused (suc k)

unfoldable pub seal_of : (c : ℕ) (key iv redundancy message : List ℕ) (room : ℕ) → Outcome
seal_of c key iv r m room = past (seal_check c key iv m room) (seal_by (key_blocks c key iv) r m)

unfoldable pub unseal_of : (c : ℕ) (key iv redundancy sealed : List ℕ) (room : ℕ) → Outcome
unseal_of c key iv r s room = past (open_check c key iv s room) (open_by (key_blocks c key iv) r s)
