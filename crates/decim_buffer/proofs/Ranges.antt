-- Buffers of Decim v2 stay in range: a word whose bits are set or drawn is a word, ABSG's three bits are at most 7, and B counts to 32.
-- Assumes nothing.
use mathlib.Core.Path.{◌≡◌, refl}
use mathlib.Core.Bool.{Bool, true, false}
use Prim.Native.Nat.{ℕ, zero, suc, ◌+◌, ◌/◌, ◌-◌, ◌≤◌}
use native.Mathlib.Nat.{mod-lt}
use native.Mathlib.Omega.{arith}
use lib.Bits.{bit_and, and_lt, or_lt}
use lib.Dec.{eqb, ltb, lit<}
use borrow.Author.Tests.{ltb-true}
use Rattle.words.specs.Word.{◌⊕◌}
use Rattle.words.specs.Lists.{Word}
use Rattle.words.specs.Tests.{pick, both}
use Rattle.decim_tables.specs.Absg.{t0, t1, absg_on, absg}
use Rattle.decim_register.specs.Register.{bit_in}
use Rattle.decim_register.proofs.Bits.{joined-below}
use Rattle.decim_register.proofs.Weights.{either, Bit, xor-bit}
use Rattle.decim_buffer.specs.declared.Buffer.{Buffer}
use Rattle.decim_buffer.specs.Buffers.{set_bit, buffered, fed, fed_by, drawn_bits, drawn}
use Rattle.decim_buffer.specs.Range.{BufferIn}

digit : (b j : ℕ) → Bit (bit_in b j)
digit b j = mod-lt _ (lit< tt)

set_word : (b i : ℕ) {c : ℕ} → Bit c → Word (set_bit b i c)
unfolding set_bit
set_word b i h = joined-below 32 _ (λ j k. either (eqb j i) _ _ h (digit b j))

drawn-word : (b i : ℕ) → Word (drawn_bits b i)
unfolding drawn_bits
drawn-word b i = joined-below 32 _ (λ j k. either (ltb j i) _ _ (digit b (j + 1)) (digit b j))

pub absg-most : (t c : ℕ) → Bit c → absg t c ≤ 7
unfolding absg absg_on
absg-most t c h =
    let p : Bit (t0 t) = mod-lt (t / 4) (lit< tt) in
    let q : Bit (t1 t) = mod-lt (t / 2) (lit< tt) in
    let n2 = and_lt 1 (t0 t) (t1 t ⊕ c) p (xor-bit q h) in
    let n1 = either (eqb (t0 t) 1) (t1 t) c q h in
    let n0 = or_lt 1 (t0 t ⊕ 1) (bit_and (t0 t) (t1 t ⊕ c)) (xor-bit p (lit< tt)) n2 in
    omega arith

buffered-in : {t b i c : ℕ} (o : Bool) → t ≤ 7 → Word b → i ≤ 32 → Bit c → BufferIn (buffered t b i o c)
unfolding buffered
buffered-in {t} {b} {i} {c} o ht hb hi hc = by o (ltb i 32) refl
  where
    by : (o e : Bool) → ltb i 32 ≡ e → BufferIn (pick (both o e) (record { t = t; b = set_bit b i c; fill = i + 1 }) (record { t = t; b = b; fill = i }))
    by true true e = let h = ltb-true i 32 e in record { t-most = ht; b-word = set_word b i hc; fill-most = omega arith }
    by true false e = record { t-most = ht; b-word = hb; fill-most = hi }
    by false e q = record { t-most = ht; b-word = hb; fill-most = hi }

fed-in : (empty : Bool) (h : Buffer) {f : ℕ} → Bit f → BufferIn h → BufferIn (fed empty h f)
unfolding fed
fed-in true h k r = buffered-in true r.t-most r.b-word r.fill-most k
fed-in false h {f} k r =
    buffered-in (eqb (t0 (absg h.t f)) 0) (absg-most h.t f k) r.b-word r.fill-most (xor-bit k (mod-lt h.t (lit< tt)))

pub fed_by-in : (empty : Bool) (f : ℕ → ℕ) (h : Buffer) (k : ℕ) → ((j : ℕ) → Bit (f j)) → BufferIn h → BufferIn (fed_by empty f h k)
unfolding fed_by
fed_by-in empty f h zero b r = r
fed_by-in empty f h (suc k) b r = fed-in empty (fed_by empty f h k) (b k) (fed_by-in empty f h k b r)

pub drawn-in : (h : Buffer) → BufferIn h → BufferIn (drawn h)
unfolding drawn
drawn-in h r = let m = r.fill-most in record { t-most = r.t-most; b-word = drawn-word h.b (h.fill - 1); fill-most = omega arith }
