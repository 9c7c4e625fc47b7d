-- Registers of Decim v2 stay six words: words joined of 32 bits are words.
-- Assumes nothing.
use mathlib.Core.Path.{refl}
use mathlib.Core.List.{List}
use Prim.Native.Nat.{ℕ, ◌+◌, ◌*◌}
use lib.Dec.{ltb}
use Rattle.words.specs.Lists.{iter}
use Rattle.words.proofs.Ranges.{all-tab, iter-keeps}
use Rattle.decim_register.specs.Register.{of_bits, moved_in, mixed, init_next_lfsr, clocked}
use Rattle.decim_register.specs.Range.{RegisterIn}
use Rattle.decim_register.proofs.Bits.{joined-below}
use Rattle.decim_register.proofs.Weights.{either, Bit, l-bit, l-lf-bit, bit-of}

pub of-bits : (f : ℕ → ℕ) → ((j : ℕ) → Bit (f j)) → RegisterIn (of_bits 6 f)
unfolding of_bits
of-bits f h = record { six = refl; cells = all-tab 6 _ (λ i q. joined-below 32 _ (λ j k. h (32 * i + j))) }

moved_in_lem : (w : List ℕ) {r : ℕ} → Bit r → RegisterIn (moved_in w r)
unfolding moved_in
moved_in_lem w h = of-bits _ (λ j. either (ltb j 191) _ _ (bit-of w (j + 1)) h)

mixed-in : (w : List ℕ) → RegisterIn w → RegisterIn (mixed w)
unfolding mixed
mixed-in w h = moved_in_lem w (l-lf-bit w)

clocked-in : (w : List ℕ) → RegisterIn w → RegisterIn (clocked w)
unfolding clocked
clocked-in w h = moved_in_lem w (l-bit w)

pub turns-in : (k : ℕ) (w : List ℕ) → RegisterIn w → RegisterIn (iter k clocked w)
turns-in k w h = iter-keeps RegisterIn clocked clocked-in k w h

pub lfsr-in : (w : List ℕ) → RegisterIn w → RegisterIn (init_next_lfsr w)
unfolding init_next_lfsr
lfsr-in w h = iter-keeps RegisterIn mixed mixed-in 4 w h
