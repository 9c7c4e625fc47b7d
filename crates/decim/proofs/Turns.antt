-- A byte is 32 turns: after k of its bits the register has turned 4 k times, and Next feeds the buffer the bits that the register handed on then.
-- Assumes nothing.
use mathlib.Core.Path.{◌≡◌, refl, ap, ap₂, sym, ◌∙◌}
use mathlib.Core.Bool.{false}
use mathlib.Core.List.{List}
use Prim.Native.Nat.{ℕ, zero, suc, ◌+◌, ◌*◌, ◌<◌, ◌≤◌}
use native.Mathlib.Numerals.{add-one}
use native.Mathlib.Omega.{arith}
use lib.Dec.{eqb, lit≤}
use Rattle.words.specs.Lists.{iter, shifted}
use Rattle.keystream.proofs.Laws.{iter-add}
use Rattle.decim_register.specs.Register.{bit_in, f_of, clocked}
use Rattle.decim_register.specs.Wide.{fed_word, f_word}
use Rattle.decim_register.specs.Range.{RegisterIn}
use Rattle.decim_register.proofs.Weights.{f-bit}
use Rattle.decim_register.proofs.Windows.{joined-bit}
use Rattle.decim_register.proofs.Moves.{moved_word}
use Rattle.decim_buffer.specs.declared.Buffer.{Buffer}
use Rattle.decim_buffer.specs.Buffers.{fed_by, drawn, refilled, refills}
use Rattle.decim_buffer.proofs.Blocks.{fed-agree}
use Rattle.decim.specs.declared.Decim.{Decim}
use Rattle.decim.specs.Cipher.{four, init_next, next_bit, next, joined_up, strm}
use Rattle.decim.proofs.Bytes.{up-agree}

-- fk of a word of them
handed : (a : List ℕ) (k : ℕ) → k < 32 → bit_in (f_word a) k ≡ f_of (iter k clocked a)
unfolding f_word
handed a k h = joined-bit (λ i. f_of (iter i clocked a)) (λ i. f-bit (iter i clocked a)) k h

-- InitNext in BUFF mode
pub filling-on : (s : Decim) {a : List ℕ} {f : ℕ} {h : Buffer} → f ≡ f_word s.a → a ≡ iter 4 clocked s.a → h ≡ fed_by false (λ m. bit_in f (4 * 0 + m)) s.buffer 4
    → record { a = a; buffer = h } ≡ init_next s
unfolding init_next four
filling-on s {a} {f} {h} e p q =
    ap₂ (λ (x : List ℕ) (y : Buffer). record { a = x; buffer = y }) p
    (q ∙ fed-agree false (λ m. bit_in f (4 * 0 + m)) (λ k. f_of (iter k clocked s.a)) s.buffer 4
    (λ m r. let z : 4 * 0 + m ≡ m = omega arith in ap₂ bit_in e z ∙ handed s.a m (omega arith)))

-- ---- the states of a byte

pub register-on : (k : ℕ) (s : Decim) → (iter k next_bit s).a ≡ iter (4 * k) clocked s.a
unfolding iter next_bit four
register-on zero s = refl
register-on (suc k) s =
    let e : 4 * k + 4 ≡ 4 * suc k = omega arith in
    ap (iter 4 clocked) (register-on k s) ∙ sym (iter-add clocked (4 * k) 4 s.a) ∙ ap (λ (n : ℕ). iter n clocked s.a) e

pub buffer-on : (k : ℕ) (s : Decim) → k < 8 → (next_bit (iter k next_bit s)).buffer ≡ refilled (λ m. bit_in (f_word s.a) (4 * k + m)) (iter k next_bit s).buffer
unfolding next_bit four refilled
buffer-on k s h =
    fed-agree (eqb (drawn (iter k next_bit s).buffer).fill 0) _ _ (drawn (iter k next_bit s).buffer) 4
    (λ m q.
    ap (λ (w : List ℕ). f_of (iter m clocked w)) (register-on k s)
    ∙ ap f_of (sym (iter-add clocked (4 * k) m s.a))
    ∙ sym (handed s.a (4 * k + m) (omega arith)))

pub refills_more : (f : ℕ) (h : Buffer) (k : ℕ) → refills f h (k + 1) ≡ refilled (λ m. bit_in f (4 * k + m)) (refills f h k)
unfolding refills
refills_more f h k = rw add-one

pub buffers-on : (s : Decim) (k : ℕ) → k ≤ 8 → refills (f_word s.a) s.buffer k ≡ (iter k next_bit s).buffer
unfolding iter refills
buffers-on s zero h = refl
buffers-on s (suc k) h = ap (refilled (λ m. bit_in (f_word s.a) (4 * k + m))) (buffers-on s k (omega arith)) ∙ sym (buffer-on k s h)

-- the state after a byte, and the byte
module _ (s : Decim) {f : ℕ} (e : f ≡ f_word s.a) where
  pub byte-on : {a : List ℕ} {r : ℕ} {h : Buffer} → RegisterIn s.a → r ≡ fed_word s.a → a ≡ shifted s.a r → h ≡ refills f s.buffer 8
      → record { a = a; buffer = h } ≡ next s
  unfolding next
  byte-on w p q g =
      ap₂ (λ (x : List ℕ) (y : Buffer). record { a = x; buffer = y })
      (q ∙ ap (shifted s.a) p ∙ sym (moved_word s.a w) ∙ sym (register-on 8 s))
      (g ∙ ap (λ (n : ℕ). refills n s.buffer 8) e ∙ buffers-on s 8 (lit≤ tt))

  pub taken-byte : joined_up 8 (λ k. bit_in (refills f s.buffer k).b 0) ≡ strm s
  unfolding strm
  taken-byte =
      up-agree 8 _ _ (λ k h. ap (λ (x : Buffer). bit_in x.b 0) (ap (λ (n : ℕ). refills n s.buffer k) e ∙ buffers-on s k (omega arith)))
