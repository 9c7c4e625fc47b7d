-- What a register feeds and hands on in 32 turns, from its six words: windows are spliced of two words, and what the register feeds is found from what is known of it.
-- Assumes nothing.
use mathlib.Core.Path.{◌≡◌, refl, ap, ap₂, sym, subst, ◌∙◌}
use mathlib.Core.List.{List, [], ◌∷◌, map}
use Prim.Native.Nat.{ℕ, ◌+◌, ◌*◌, ◌/◌, ◌%◌, ◌-◌, ◌^◌, ◌<◌, ◌≤◌}
use native.Mathlib.Nat.{mod-lt}
use native.Mathlib.Omega.{arith}
use lib.Arith.{digits_lt}
use lib.Bits.{bit_xor, xor_shifted}
use lib.Dec.{lit<, lit≤}
use lib.ListN.{length, get_or, get_or-append}
use lib.Pow.{pow-add, pow_pos}
use lib.Seq.{get_or_at}
use Rattle.words.specs.Word.{◌⊕◌}
use Rattle.words.specs.Lists.{All, Word, iter}
use Rattle.words.proofs.Ranges.{at-word}
use Rattle.words.proofs.Registers.{cons, listed}
use Rattle.decim_register.specs.Register.{◌!◌, clocked}
use Rattle.decim_register.specs.Range.{RegisterIn}
use Rattle.decim_register.specs.Wide.{window, fed_word, lf_word, f_word, on, spliced, known_low, known_high, solution, counted, lf_taps}
use Rattle.decim_register.proofs.Bits.{joined-agree, joined-below}
use Rattle.decim_register.proofs.Weights.{l-bit}
use Rattle.decim_register.proofs.Windows.{fed-windows, turned, window-whole, window-spliced, moved_up, top_below}
use Rattle.decim_register.proofs.Counting.{no_sum, lf-windows, f-windows}
use Rattle.decim_register.proofs.Solving.{solved, regrouped}

pub fed-word : (a : List ℕ) → Word (fed_word a)
unfolding fed_word
fed-word a = joined-below 32 _ (λ k h. l-bit (iter k clocked a))

-- a word moved up, and the top of the next: their sum is their exclusive or, and a word
module _ (x y m : ℕ) (h : m < 32) (hy : Word y) where
  apart : spliced x y m ≡ (x * 2 ^ m % 2 ^ 32) ⊕ (y / 2 ^ (32 - m))
  apart =
      ap (λ (t : ℕ). t + y / 2 ^ (32 - m)) (sym (moved_up x m h))
      ∙ sym (xor_shifted (x % 2 ^ (32 - m)) m (y / 2 ^ (32 - m)) (top_below y m h hy))
      ∙ ap (λ (t : ℕ). t ⊕ y / 2 ^ (32 - m)) (moved_up x m h)

  pub spliced-fits : spliced x y m < 2 ^ 32
  spliced-fits =
      let n : 32 - m + m ≡ 32 = omega arith in
      let d : x % 2 ^ (32 - m) * 2 ^ m + y / 2 ^ (32 - m) < 2 ^ (32 - m) * 2 ^ m = digits_lt (mod-lt x (pow_pos (32 - m))) (top_below y m h hy) in
      let e : 2 ^ (32 - m) * 2 ^ m ≡ 2 ^ 32 = sym (pow-add 2 (32 - m) m) ∙ ap (λ (t : ℕ). 2 ^ t) n in
      let k = moved_up x m h in
      omega arith

module _ (a : List ℕ) (six : length a ≡ 6) (cells : All Word a) where
  on-at : (i : ℕ) → i < 6 → get_or (on a) i 0 ≡ get_or a i 0
  on-at i h = get_or-append a (fed_word a ∷ []) 0 i (omega arith)

  on-last : get_or (on a) 6 0 ≡ fed_word a
  on-last = get_or_at a (fed_word a) [] 0 6 six

  on_word : (i : ℕ) → i < 6 → Word (get_or (on a) i 0)
  on_word i h = subst Word (sym (on-at i h)) (at-word cells i)

  whole : window (on a) 0 ≡ get_or a 0 0
  whole = window-whole (on a) 0 (on_word 0 (lit< tt)) ∙ on-at 0 (lit< tt)

  inner : (i m : ℕ) → i < 5 → 0 < m → m < 32 → window (on a) (32 * i + m) ≡ spliced (get_or a i 0) (get_or a (i + 1) 0) m
  inner i m h hm k =
      window-spliced (on a) i m hm k (on_word (i + 1) (omega arith)) ∙ ap₂ (λ (x y : ℕ). spliced x y m) (on-at i (omega arith)) (on-at (i + 1) (omega arith))

  outer : (m : ℕ) → 0 < m → m < 32 → window (on a) (160 + m) ≡ spliced (get_or a 5 0) (fed_word a) m
  outer m hm k =
      window-spliced (on a) 5 m hm k (subst Word (sym on-last) (fed-word a)) ∙ ap₂ (λ (x y : ℕ). spliced x y m) (on-at 5 (lit< tt)) on-last

  own : (m : ℕ) → 0 < m → m < 32 → window (on a) (160 + m) ≡ (get_or a 5 0 * 2 ^ m % 2 ^ 32) ⊕ (fed_word a / 2 ^ (32 - m))
  own m hm k = outer m hm k ∙ apart (get_or a 5 0) (fed_word a) m k (fed-word a)

  -- what is fed, from the words
  pub fed-is : solution (known_low (get_or a 0 0) (get_or a 1 0) (get_or a 2 0) ⊕ known_high (get_or a 3 0) (get_or a 4 0) (get_or a 5 0)) ≡ fed_word a
  unfolding known_low known_high
  fed-is =
      let a3 = get_or a 3 0 in
      let a4 = get_or a 4 0 in
      let a5 = get_or a 5 0 in
      let r = fed_word a in
      ap solution
      (regrouped (known_low (get_or a 0 0) (get_or a 1 0) (get_or a 2 0)) (spliced a3 a4 2) (spliced a3 a4 19) (spliced a4 a5 18)
      (a5 * 2 ^ 15 % 2 ^ 32) (a5 * 2 ^ 16 % 2 ^ 32) (a5 * 2 ^ 27 % 2 ^ 32) (r / 2 ^ 17) (r / 2 ^ 16) (r / 2 ^ 5) r
      (fed-windows a six
      ∙ x (x (x (x (x (x (x (x (x (x (x (x (x whole (inner 0 3 (lit< tt) (lit< tt) (lit< tt))) (inner 0 4 (lit< tt) (lit< tt) (lit< tt))) (inner 0 23 (lit< tt) (lit< tt) (lit< tt))) (inner 1 4 (lit< tt) (lit< tt) (lit< tt))) (inner 1 5 (lit< tt) (lit< tt) (lit< tt))) (inner 1 28 (lit< tt) (lit< tt) (lit< tt))) (inner 1 29 (lit< tt) (lit< tt) (lit< tt))) (inner 3 2 (lit< tt) (lit< tt) (lit< tt))) (inner 3 19 (lit< tt) (lit< tt) (lit< tt))) (inner 4 18 (lit< tt) (lit< tt) (lit< tt))) (own 15 (lit< tt) (lit< tt))) (own 16 (lit< tt) (lit< tt))) (own 27 (lit< tt) (lit< tt))))
      ∙ solved (fed_word a) (fed-word a)
    where
      x : {b c d e : ℕ} → b ≡ c → d ≡ e → b ⊕ d ≡ c ⊕ e
      x p q = ap₂ bit_xor p q

  -- what is handed on, from the words and what is fed
  unfoldable pub taps : List ℕ
  taps =
      let a0 = get_or a 0 0 in
      let a1 = get_or a 1 0 in
      let a2 = get_or a 2 0 in
      let a3 = get_or a 3 0 in
      let a4 = get_or a 4 0 in
      let a5 = get_or a 5 0 in
      let r = fed_word a in
      spliced a0 a1 13 ∷ spliced a0 a1 28 ∷ spliced a1 a2 13 ∷ spliced a1 a2 22 ∷ spliced a2 a3 1 ∷ spliced a3 a4 8 ∷ spliced a3 a4 15 ∷ spliced a4 a5 16
      ∷ spliced a5 r 2 ∷ spliced a5 r 12 ∷ spliced a5 r 18 ∷ spliced a5 r 26 ∷ spliced a5 r 31 ∷ []

  tapped : map (window (on a)) lf_taps ≡ taps
  unfolding taps
  tapped =
      cons (inner 0 13 (lit< tt) (lit< tt) (lit< tt)) (cons (inner 0 28 (lit< tt) (lit< tt) (lit< tt)) (cons (inner 1 13 (lit< tt) (lit< tt) (lit< tt)) (cons (inner 1 22 (lit< tt) (lit< tt) (lit< tt)) (cons (inner 2 1 (lit< tt) (lit< tt) (lit< tt)) (cons (inner 3 8 (lit< tt) (lit< tt) (lit< tt)) (cons (inner 3 15 (lit< tt) (lit< tt) (lit< tt)) (cons (inner 4 16 (lit< tt) (lit< tt) (lit< tt))
      (cons (outer 2 (lit< tt) (lit< tt)) (cons (outer 12 (lit< tt) (lit< tt)) (cons (outer 18 (lit< tt) (lit< tt)) (cons (outer 26 (lit< tt) (lit< tt)) (cons (outer 31 (lit< tt) (lit< tt)) refl))))))))))))

  pub lf-is : (counted no_sum taps).low ⊕ (counted no_sum taps).high ≡ lf_word a
  lf-is = sym (lf-windows a six ∙ ap (λ (l : List ℕ). (counted no_sum l).low ⊕ (counted no_sum l).high) tapped)

  pub f-is : spliced (get_or a 0 0) (get_or a 1 0) 1 ⊕ lf_word a ≡ f_word a
  f-is = sym (f-windows a six ∙ ap (λ (x : ℕ). x ⊕ lf_word a) (inner 0 1 (lit< tt) (lit< tt) (lit< tt)))

  -- the register after four turns
  turned-word : (k : ℕ) → k ≤ 32 → (i : ℕ) → i < 6 → Word (get_or (iter k clocked a) i 0) → get_or (iter k clocked a) i 0 ≡ window (on a) (32 * i + k)
  unfolding window
  turned-word k h i q w =
      sym (window-whole (iter k clocked a) i w)
      ∙ joined-agree 32 (λ m. iter k clocked a ! (32 * i + m)) (λ m. on a ! (32 * i + k + m))
      (λ m r.
      let e : 32 * i + m + k ≡ 32 * i + k + m = omega arith in
      turned a six k h (32 * i + m) (omega arith) ∙ ap (λ (n : ℕ). on a ! n) e)

  pub four_is : RegisterIn (iter 4 clocked a)
      → let a0 = get_or a 0 0 in let a1 = get_or a 1 0 in let a2 = get_or a 2 0 in let a3 = get_or a 3 0 in let a4 = get_or a 4 0 in let a5 = get_or a 5 0 in
      spliced a0 a1 4 ∷ spliced a1 a2 4 ∷ spliced a2 a3 4 ∷ spliced a3 a4 4 ∷ spliced a4 a5 4 ∷ spliced a5 (fed_word a) 4 ∷ [] ≡ iter 4 clocked a
  four_is h =
      let w : (i : ℕ) → i < 6 → get_or (iter 4 clocked a) i 0 ≡ window (on a) (32 * i + 4) = λ i q. turned-word 4 (lit≤ tt) i q (at-word h.cells i) in
      sym (listed 6 (iter 4 clocked a) h.six
      ∙ cons (w 0 (lit< tt) ∙ inner 0 4 (lit< tt) (lit< tt) (lit< tt)) (cons (w 1 (lit< tt) ∙ inner 1 4 (lit< tt) (lit< tt) (lit< tt))
      (cons (w 2 (lit< tt) ∙ inner 2 4 (lit< tt) (lit< tt) (lit< tt)) (cons (w 3 (lit< tt) ∙ inner 3 4 (lit< tt) (lit< tt) (lit< tt))
      (cons (w 4 (lit< tt) ∙ inner 4 4 (lit< tt) (lit< tt) (lit< tt)) (cons (w 5 (lit< tt) ∙ outer 4 (lit< tt) (lit< tt)) refl))))))
