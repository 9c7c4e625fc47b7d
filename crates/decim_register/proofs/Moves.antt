-- What a turn of LFSR mode feeds, from words of 32 turns; and the register after 32 turns, which has moved by a word.
-- Assumes nothing.
use mathlib.Core.Path.{◌≡◌, refl, ap, ap₂, sym, ◌∙◌}
use mathlib.Core.List.{List, [], ◌∷◌}
use Prim.Native.Nat.{ℕ, ◌+◌, ◌*◌, ◌/◌, ◌%◌, ◌^◌, ◌<◌}
use native.Mathlib.Omega.{arith}
use lib.Dec.{lit<, lit≤}
use lib.ListN.{get_or}
use lib.Seq.{ext_get_or, get_or-drop, drop-append-le}
use Rattle.words.specs.Word.{◌⊕◌}
use Rattle.words.specs.Lists.{Word, iter, shifted}
use Rattle.words.proofs.Ranges.{at-word, all-shifted, length-shifted, xor-word}
use Rattle.decim_register.specs.Register.{bit_in, ◌!◌, l, lf, clocked}
use Rattle.decim_register.specs.Wide.{window, fed_word, lf_word, on}
use Rattle.decim_register.specs.Range.{RegisterIn}
use Rattle.decim_register.proofs.Bits.{joined-agree, joined-below}
use Rattle.decim_register.proofs.Weights.{l-bit, lf-bit}
use Rattle.decim_register.proofs.Windows.{Joins, joins-xor, joined-bit, turned, window-whole}
use Rattle.decim_register.proofs.Counting.{joins-lf}
use Rattle.decim_register.proofs.Feeding.{fed-word}
use Rattle.decim_register.proofs.Ranges.{turns-in}

-- ---- the first of 32 turns

joins-l : (a : List ℕ) → Joins (λ k. l (iter k clocked a)) (fed_word a)
unfolding fed_word
joins-l a = record { bits = λ k. l-bit (iter k clocked a); is = refl }

lf-word : (a : List ℕ) → Word (lf_word a)
unfolding lf_word
lf-word a = joined-below 32 _ (λ k h. lf-bit (iter k clocked a))

-- the top bit of what L feeds and LF gives
pub first-mixed : (a : List ℕ) → (fed_word a ⊕ lf_word a) / 2 ^ 31 ≡ l a ⊕ lf a
unfolding iter
first-mixed a =
    let h : fed_word a ⊕ lf_word a < 2 ^ 32 = xor-word (fed-word a) (lf-word a) in
    let j = joins-xor (joins-l a) (joins-lf a) in
    let x = fed_word a ⊕ lf_word a in
    let e : x / 2 ^ 31 % 2 ≡ x / 2 ^ 31 = omega arith in
    sym e
    ∙ ap (λ (w : ℕ). bit_in w 0) (sym j.is)
    ∙ joined-bit (λ k. l (iter k clocked a) ⊕ lf (iter k clocked a)) j.bits 0 (lit< tt)

-- ---- the register after 32 turns

-- registers with the same bits
same_bits : (x y : List ℕ) → RegisterIn x → RegisterIn y → ((j : ℕ) → j < 192 → x ! j ≡ y ! j) → x ≡ y
unfolding window
same_bits x y hx hy e =
    ext_get_or 0 x y (hx.six ∙ sym hy.six)
    (λ i h.
    let q : i < 6 = omega (arith, hx.six) in
    sym (window-whole x i (at-word hx.cells i))
    ∙ same i q
    ∙ window-whole y i (at-word hy.cells i))
  where
    same : (i : ℕ) → i < 6 → window x (32 * i) ≡ window y (32 * i)
    same i q = joined-agree 32 (λ k. x ! (32 * i + k)) (λ k. y ! (32 * i + k)) (λ k r. e (32 * i + k) (omega arith))

module _ (a : List ℕ) (h : RegisterIn a) where
  moved_at : (j : ℕ) → on a ! (j + 32) ≡ shifted a (fed_word a) ! j
  unfolding shifted
  moved_at j =
      let q : (j + 32) / 32 ≡ 1 + j / 32 = omega arith in
      let r : (j + 32) % 32 ≡ j % 32 = omega arith in
      ap₂ (λ (x y : ℕ). bit_in (get_or (on a) x 0) y) q r
      ∙ ap (λ (x : ℕ). bit_in x (j % 32))
      (sym (get_or-drop 1 (on a) (j / 32) 0) ∙ ap (λ (l : List ℕ). get_or l (j / 32) 0) (drop-append-le 1 a (fed_word a ∷ []) (omega (arith, h.six))))

  pub moved_word : iter 32 clocked a ≡ shifted a (fed_word a)
  moved_word =
      same_bits (iter 32 clocked a) (shifted a (fed_word a)) (turns-in 32 a h)
      (record { six = length-shifted 5 a (fed_word a) h.six; cells = all-shifted h.cells (fed-word a) })
      (λ j q. turned a h.six 32 (lit≤ tt) j q ∙ moved_at j)
