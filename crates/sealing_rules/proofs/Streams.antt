-- The keystream of any S(0) of any cipher is bytes, and so its blocks are blocks.
-- Assumes nothing.
use mathlib.Core.List.{List}
use Prim.Native.Nat.{ℕ, ◌/◌, ◌%◌}
use native.Mathlib.Omega.{arith}
use Rattle.words.proofs.Ranges.{all-at}
use Rattle.keystream.specs.Stream.{state_at, byte_at}
use Rattle.ciphers.specs.Table.{cipher_at}
use Rattle.ciphers.proofs.Sound.{sound}
use Rattle.blocks.specs.Blocks.{Block}
use Rattle.blocks.proofs.Spelling.{Bytes}
use Rattle.multi_s01.proofs.Stream.{block_of-range}
use Rattle.sealing_rules.specs.Sealing.{stream_bytes, blocks_from}

pub stream-bytes : (c : ℕ) (s : List ℕ) → Bytes (stream_bytes c s)
unfolding byte_at
stream-bytes c s j = all-at (omega arith) ((sound c).strm-bytes (state_at (cipher_at c).gen s 0 (j / (cipher_at c).gen.unit))) (j % (cipher_at c).gen.unit)

pub stream-blocks : (c : ℕ) (s : List ℕ) (i : ℕ) → Block (blocks_from c s i)
stream-blocks c s i = block_of-range (stream_bytes c s) (stream-bytes c s) i
