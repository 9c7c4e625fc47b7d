-- Decim v2: a state of annex C.5.3 on the way through LFSR mode, and S(0) and the first bytes of the fifth triplet of C.5.2, whose stream is printed last byte first,
-- computed from the definitions.
-- Assumes nothing.
use mathlib.Core.Path.{◌≡◌, refl}
use mathlib.Core.List.{List, [], ◌∷◌}
use Prim.Native.Nat.{ℕ}
use Rattle.words.specs.Lists.{tab, iter}
use Rattle.decim.specs.declared.Decim.{Decim}
use Rattle.decim.specs.Cipher.{four, init_next, next_bit, loaded_bit, loaded, lfsr_filled, buffer_filled, init, next, joined_up, strm}
use Rattle.decim_tables.specs.Absg.{absg_on, absg}
use Rattle.decim_register.specs.Register.{joined_down, of_bits, l, sum, products, y, lf, moved_in, mixed, init_next_lfsr, clocked, f_of}
use Rattle.decim_buffer.specs.Buffers.{set_bit, buffered, fed, fed_by, drawn_bits, drawn}

-- C.5.3: the register at time -252, whose printed bytes run from a191 down
pub fourth-state : iter 4 init_next_lfsr (loaded (0 ∷ 0 ∷ 0 ∷ 0 ∷ 0 ∷ 0 ∷ 0 ∷ 0 ∷ 0 ∷ 0x80 ∷ []) (tab 8 (λ i. 0))) ≡ 0 ∷ 0 ∷ 0x01000000 ∷ 0 ∷ 0x0000ffff ∷ 0xffff4219 ∷ []
unfolding joined_down of_bits loaded_bit loaded iter init_next_lfsr mixed moved_in l lf y sum products
fourth-state = refl

abbrev pub key : List ℕ
key = 0xeb ∷ 0x98 ∷ 0x45 ∷ 0xf2 ∷ 0x9f ∷ 0x4c ∷ 0xf9 ∷ 0xa6 ∷ 0x53 ∷ 0x00 ∷ []

abbrev pub iv : List ℕ
iv = 0xde ∷ 0x77 ∷ 0x10 ∷ 0xa9 ∷ 0x42 ∷ 0xdb ∷ 0x74 ∷ 0x0d ∷ []

unfoldable pub start : Decim
start =
    record {
      a = 0x17bea107 ∷ 0x0a51b207 ∷ 0x9fba7afb ∷ 0x64fcb6cc ∷ 0x3622aacc ∷ 0x03ffa5e8 ∷ [];
      buffer = record { t = 0; b = 0x1dd318d9; fill = 32 };
    }

pub starts : init key iv ≡ start
unfolding start joined_down of_bits loaded_bit loaded iter init_next_lfsr mixed moved_in l lf y sum products init lfsr_filled buffer_filled init_next four fed_by fed clocked f_of buffered set_bit absg absg_on
starts = refl

pub first-bytes : tab 4 (λ i. strm (iter i next start)) ≡ 0xb8 ∷ 0xcb ∷ 0x18 ∷ 0x9b ∷ []
unfolding start joined_down of_bits iter moved_in l lf y sum products four fed_by fed clocked f_of buffered set_bit absg absg_on drawn_bits drawn next_bit next joined_up strm
first-bytes = refl
