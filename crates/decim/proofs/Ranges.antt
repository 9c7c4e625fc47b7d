-- Decim's states stay in range, and its units are bytes.
-- Assumes nothing.
use mathlib.Core.Path.{◌≡◌, refl}
use mathlib.Core.Bool.{Bool, true, false}
use mathlib.Core.List.{List}
use Prim.Native.Nat.{ℕ, zero, suc}
use lib.Dec.{ltb, lit<, lit≤}
use lib.ListN.{length}
use Rattle.words.specs.Lists.{All, none, more, Byte, iter}
use Rattle.words.specs.Tests.{pick}
use Rattle.words.proofs.Ranges.{iter-keeps}
use Rattle.decim_register.specs.Register.{init_next_lfsr, clocked}
use Rattle.decim_register.specs.Range.{RegisterIn}
use Rattle.decim_register.proofs.Weights.{f-bit}
use Rattle.decim_register.proofs.Ranges.{of-bits, turns-in, lfsr-in}
use Rattle.decim_buffer.specs.declared.Buffer.{Buffer}
use Rattle.decim_buffer.specs.Range.{BufferIn}
use Rattle.decim_buffer.proofs.Ranges.{fed_by-in, drawn-in}
use Rattle.decim.specs.declared.Decim.{Decim}
use Rattle.decim.specs.Cipher.{four, init_next, next_bit, loaded, lfsr_filled, buffer_filled, init, next, unit, u}
use Rattle.decim.specs.Range.{InRange}
use Rattle.decim.proofs.Loading.{loaded-bit}
use Rattle.decim.proofs.Bytes.{strm-byte}

four-in : (empty : Bool) {a : List ℕ} {h : Buffer} → RegisterIn a → BufferIn h → InRange (four empty a h)
unfolding four
four-in empty {a} {h} p q = record { register = turns-in 4 a p; block = fed_by-in empty _ h 4 (λ k. f-bit (iter k clocked a)) q }

init_next-range : (s : Decim) → InRange s → InRange (init_next s)
unfolding init_next
init_next-range s h = four-in false h.register h.block

next_bit-range : (s : Decim) → InRange s → InRange (next_bit s)
unfolding next_bit
next_bit-range s h = four-in _ h.register (drawn-in s.buffer h.block)

pub next-range : (s : Decim) → InRange s → InRange (next s)
unfolding next
next-range s h = iter-keeps InRange next_bit next_bit-range 8 s h

filled-range : (n : ℕ) (s : Decim) → InRange s → InRange (buffer_filled n s)
unfolding buffer_filled
filled-range zero s h = h
filled-range (suc n) s h = one (ltb s.buffer.fill 32) (filled-range n (init_next s) (init_next-range s h)) h
  where
    one : {x y : Decim} (t : Bool) → InRange x → InRange y → InRange (pick t x y)
    one true p q = p
    one false p q = q

-- S(0) is in range, whatever key and IV are
pub init-range : (k iv : List ℕ) → All Byte k → All Byte iv → InRange (init k iv)
unfolding init lfsr_filled loaded
init-range k iv hk hv =
    filled-range 1024 (lfsr_filled k iv)
    (record {
      register = iter-keeps RegisterIn init_next_lfsr lfsr-in 192 (loaded k iv) (of-bits _ (λ j. loaded-bit k iv j));
      block = record { t-most = lit≤ tt; b-word = lit< tt; fill-most = lit≤ tt };
    })

-- a unit is u bytes
pub unit-length : (s : Decim) → length (unit s) ≡ u
unfolding unit
unit-length s = refl

pub unit-bytes : (s : Decim) → All Byte (unit s)
unfolding unit
unit-bytes s = more (strm-byte s) none
