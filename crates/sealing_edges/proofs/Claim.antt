-- By computation.
-- Assumes nothing.
use mathlib.Core.Path.{◌≡◌, refl, ap, sym, ◌∙◌}
use mathlib.Core.List.{map}
use Prim.Native.Nat.{ℕ, ◌+◌}
use native.Mathlib.Nat.{not-suc-le-zero}
use native.Mathlib.Omega.{arith}
use lib.Dec.{lit<}
use Rattle.words.specs.Lists.{iter}
use Rattle.words.proofs.Ranges.{all-tab}
use Rattle.words.specs.Strings.{word_at, bytes_of, bytes_up}
use Rattle.keystream.specs.Stream.{state_at, byte_at}
use Rattle.rabbit_tables.specs.Tables.{a_list}
use Rattle.rabbit.specs.Cipher.{g, carry_at, counted, gs, mixed, next, half_at, parts8, parts4, arranged, loaded, master, iv_words, modified, with_iv, started, init, unit}
use Rattle.ciphers.specs.States.{rabbit_words, rabbit_state}
use Rattle.ciphers.specs.Table.{cipher_at, zuc, rabbit, snow128, snow256, kcipher2, mugi}
use Rattle.machine.specs.Machine.{spare_used, blank_key}
use Rattle.gf64.specs.Gf64.{mul}
use Rattle.blocks.specs.Blocks.{block_at, spell, blocks_of}
use Rattle.multi_s01.specs.Stream.{block_of}
use Rattle.multi_s01.specs.Multi as S
use Rattle.sealing_rules.specs.Sealing.{accepted, check_of, seal_check, key_blocks, sealed_with, seal_of, unseal_of}
use Rattle.sealing_rules.specs.Clause.{Multiplier}
use Rattle.sealing_rules.proofs.Accepts.{seal-accepts}
use Rattle.sealing_rules.proofs.Returned.{opened-sealed}
use Rattle.sealing_edges.specs.Table.{Row, table, key, iv, redundancy, message, sealed}

pub edges : map (λ (r : Row). r.computed) table ≡ map (λ (r : Row). r.stated) table
unfolding table check_of spare_used blank_key cipher_at zuc rabbit snow128 snow256 kcipher2 mugi
edges = refl

-- Rabbit's first block is not 0, so that it is the multiplier
first_block : key_blocks 2 key iv 0 ≡ 0x1bb655a6ae3fea6a
unfolding cipher_at rabbit rabbit_words rabbit_state a_list g carry_at counted gs mixed next half_at parts8 parts4 arranged loaded master iv_words modified with_iv started init unit iter bytes_up state_at byte_at block_at word_at block_of
first_block = refl

multiplies : Multiplier (key_blocks 2 key iv) 0
multiplies = record { tried = lit< tt; not-zero = λ e. (let z : ◌≡◌ {A = ℕ} 0x1bb655a6ae3fea6a 0 = sym first_block ∙ e in omega arith); lowest = λ i q. absurd (not-suc-le-zero q) }

checked : seal_check 2 key iv message 24 ≡ 0
unfolding check_of spare_used blank_key cipher_at rabbit
checked = refl

bytes : sealed_with (key_blocks 2 key iv) 0 redundancy message ≡ sealed
unfolding sealed_with S.sealed mul blocks_of spell bytes_of cipher_at rabbit rabbit_words rabbit_state a_list g carry_at counted gs mixed next half_at parts8 parts4 arranged loaded master iv_words modified with_iv started init unit iter bytes_up state_at byte_at block_at word_at block_of
bytes = refl

pub sealing-computed : seal_of 2 key iv redundancy message 24 ≡ accepted sealed
sealing-computed = seal-accepts 2 key iv redundancy message 24 0 checked multiplies ∙ ap accepted bytes

pub opening-computed : unseal_of 2 key iv redundancy sealed 8 ≡ accepted message
opening-computed =
    opened-sealed 2 key iv redundancy message sealed 24 8 (all-tab 8 (λ j. j) (λ i q. omega arith)) (all-tab 8 (λ j. 0x41 + j) (λ i q. omega arith)) sealing-computed (omega arith)
