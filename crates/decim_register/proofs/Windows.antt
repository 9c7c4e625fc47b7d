-- Thirty-two turns of the register, bit by bit: the register after k turns is a window of the register and what it feeds, so what it feeds is the exclusive or of
-- windows, and so is what it hands on.
-- Assumes nothing.
use mathlib.Core.Path.{◌≡◌, refl, ap, ap₂, sym, subst, ◌∙◌}
use mathlib.Core.Bool.{Bool, true, false}
use mathlib.Core.List.{List, [], ◌∷◌}
use Prim.Native.Nat.{ℕ, zero, suc, ◌+◌, ◌*◌, ◌/◌, ◌%◌, ◌-◌, ◌^◌, ◌<◌, ◌≤◌}
use native.Mathlib.Nat.{mod-lt, le_of_suc-le-suc, not-suc-le-zero, add-zero, mod-eq_of_lt, mul-mod_left}
use native.Mathlib.Omega.{arith}
use lib.Arith.{lt_of_le-ne}
use lib.Bits.{bit_xor, bit_and, xor_block, and_block, and_lt}
use lib.Dec.{eqb, ltb, lit<}
use lib.ListN.{length, get_or, get_or-append}
use lib.Pow.{shr-shr, shr_lt, shl-shr, mod-pow-add}
use lib.Seq.{get_or_at}
use borrow.Author.Tests.{eqb-true, eqb-false, ltb-true, ltb-false}
use Rattle.words.specs.Word.{◌⊕◌, bit}
use Rattle.words.specs.Lists.{tab, iter}
use Rattle.words.specs.Tests.{pick}
use Rattle.decim_register.specs.Register.{bit_in, ◌!◌, joined_down, of_bits, moved_in, l, clocked}
use Rattle.decim_register.specs.Wide.{window, fed_word, on, spliced}
use Rattle.decim_register.proofs.Bits.{joined-agree, joined_is, joined-split, at}
use Rattle.decim_register.proofs.Weights.{either, Bit, xor-bit, l-bit, bit-of}

-- ---- bits that were joined

pub joined_at : (n : ℕ) (f : ℕ → ℕ) → ((j : ℕ) → Bit (f j)) → (k : ℕ) → k < n → joined_down n f / 2 ^ (n - suc k) % 2 ≡ f k
unfolding joined_down
joined_at zero f b k h = elim h [ ]
joined_at (suc n) f b k h = by (joined_at n f b k) (eqb n k) refl
  where
    by : (k < n → joined_down n f / 2 ^ (n - suc k) % 2 ≡ f k) → (t : Bool) → eqb n k ≡ t → (joined_down n f * 2 + f n) / 2 ^ (suc n - suc k) % 2 ≡ f k
    by less true e =
        let q : n ≡ k = eqb-true n k e in
        let z : suc n - suc k ≡ 0 = omega arith in
        let m = b n in
        ap (λ (i : ℕ). (joined_down n f * 2 + f n) / 2 ^ i % 2) z ∙ (let w : (joined_down n f * 2 + f n) / 1 % 2 ≡ f n = omega arith in w) ∙ ap f q
    by less false e =
        let q : k < n = lt_of_le-ne (le_of_suc-le-suc h) (λ w. eqb-false n k e (sym w)) in
        let z : suc n - suc k ≡ 1 + (n - suc k) = omega arith in
        let m = b n in
        let w : (joined_down n f * 2 + f n) / 2 ≡ joined_down n f = omega arith in
        ap (λ (i : ℕ). (joined_down n f * 2 + f n) / 2 ^ i % 2) z
        ∙ ap (λ (x : ℕ). x % 2) (sym (shr-shr (joined_down n f * 2 + f n) 1 (n - suc k)) ∙ ap (λ (x : ℕ). x / 2 ^ (n - suc k)) w)
        ∙ less q

pub joined-bit : (f : ℕ → ℕ) → ((j : ℕ) → Bit (f j)) → (k : ℕ) → k < 32 → bit_in (joined_down 32 f) k ≡ f k
joined-bit f b k h = let e : 31 - k ≡ 32 - suc k = omega arith in ap (λ (i : ℕ). joined_down 32 f / 2 ^ i % 2) e ∙ joined_at 32 f b k h

tab-at : (n : ℕ) (f : ℕ → ℕ) (i : ℕ) → i < n → get_or (tab n f) i 0 ≡ f i
tab-at zero f i h = absurd (not-suc-le-zero h)
tab-at (suc n) f zero h = refl
tab-at (suc n) f (suc i) h = tab-at n (λ k. f (suc k)) i (le_of_suc-le-suc h)

of_bits-at : (f : ℕ → ℕ) → ((j : ℕ) → Bit (f j)) → (j : ℕ) → j < 192 → of_bits 6 f ! j ≡ f j
unfolding of_bits
of_bits-at f b j h =
    let q : j / 32 < 6 = omega arith in
    let e : 32 * (j / 32) + j % 32 ≡ j = omega arith in
    ap (λ (x : ℕ). bit_in x (j % 32)) (tab-at 6 (λ i. joined_down 32 (λ k. f (32 * i + k))) (j / 32) q)
    ∙ joined-bit (λ k. f (32 * (j / 32) + k)) (λ k. b _) (j % 32) (mod-lt j (lit< tt))
    ∙ ap f e

-- ---- turns

clocked-at : (w : List ℕ) (j : ℕ) → j < 192 → clocked w ! j ≡ pick (ltb j 191) (w ! (j + 1)) (l w)
unfolding clocked moved_in
clocked-at w j h = of_bits-at (λ i. pick (ltb i 191) (w ! (i + 1)) (l w)) (λ i. either (ltb i 191) _ _ (bit-of w (i + 1)) (l-bit w)) j h

module _ (a : List ℕ) (six : length a ≡ 6) where
  inside : (j : ℕ) → j < 192 → a ! j ≡ on a ! j
  inside j h =
      let q : j / 32 < length a = omega arith in
      ap (λ (x : ℕ). bit_in x (j % 32)) (sym (get_or-append a (fed_word a ∷ []) 0 (j / 32) q))

  behind : (k : ℕ) → k < 32 → l (iter k clocked a) ≡ on a ! (192 + k)
  unfolding fed_word
  behind k h =
      sym (joined-bit (λ i. l (iter i clocked a)) (λ i. l-bit (iter i clocked a)) k h)
      ∙ ap (λ (x : ℕ). bit_in x k) (sym (get_or_at a (fed_word a) [] 0 6 six))
      ∙ sym (at (on a) 6 k h)

  pub turned : (k : ℕ) → k ≤ 32 → (j : ℕ) → j < 192 → iter k clocked a ! j ≡ on a ! (j + k)
  unfolding iter
  turned zero h j q = inside j q ∙ ap (λ (n : ℕ). on a ! n) (sym (add-zero j))
  turned (suc k) h j q = clocked-at (iter k clocked a) j q ∙ by (turned k (omega arith)) (ltb j 191) refl
    where
      by : ((i : ℕ) → i < 192 → iter k clocked a ! i ≡ on a ! (i + k)) → (t : Bool) → ltb j 191 ≡ t
          → pick t (iter k clocked a ! (j + 1)) (l (iter k clocked a)) ≡ on a ! (j + suc k)
      by earlier true e =
          let m = ltb-true j 191 e in
          let n : j + 1 + k ≡ j + suc k = omega arith in
          earlier (j + 1) (omega arith) ∙ ap (λ (i : ℕ). on a ! i) n
      by earlier false e =
          let m = ltb-false j 191 e in
          let n : 192 + k ≡ j + suc k = omega arith in
          behind k h ∙ ap (λ (i : ℕ). on a ! i) n

-- ---- exclusive ors of bits, joined

-- bits p, which joined are P
pub record Joins (p : ℕ → ℕ) (P : ℕ) : Type 0 where
  pub bits : (k : ℕ) → Bit (p k)
  pub is : joined_down 32 p ≡ P

joined-xor : (n : ℕ) (p q : ℕ → ℕ) → ((k : ℕ) → Bit (p k)) → ((k : ℕ) → Bit (q k)) → joined_down n (λ k. p k ⊕ q k) ≡ joined_down n p ⊕ joined_down n q
unfolding joined_down
joined-xor zero p q hp hq = refl
joined-xor (suc n) p q hp hq =
    ap (λ (x : ℕ). x * 2 + (p n ⊕ q n)) (joined-xor n p q hp hq) ∙ sym (xor_block 1 (joined_down n p) (joined_down n q) (p n) (q n) (hp n) (hq n))

joined-and : (n : ℕ) (p q : ℕ → ℕ) → ((k : ℕ) → Bit (p k)) → ((k : ℕ) → Bit (q k)) → joined_down n (λ k. bit_and (p k) (q k)) ≡ bit_and (joined_down n p) (joined_down n q)
unfolding joined_down
joined-and zero p q hp hq = refl
joined-and (suc n) p q hp hq =
    ap (λ (x : ℕ). x * 2 + bit_and (p n) (q n)) (joined-and n p q hp hq) ∙ sym (and_block 1 (joined_down n p) (joined_down n q) (p n) (q n) (hp n) (hq n))

module _ {p q : ℕ → ℕ} {P Q : ℕ} (x : Joins p P) (y : Joins q Q) where
  pub joins-xor : Joins (λ k. p k ⊕ q k) (P ⊕ Q)
  joins-xor =
      record { bits = λ k. xor-bit (x.bits k) (y.bits k); is = joined-xor 32 p q x.bits y.bits ∙ ap₂ bit_xor x.is y.is }

  pub joins-and : Joins (λ k. bit_and (p k) (q k)) (bit_and P Q)
  joins-and =
      record {
        bits = λ k. and_lt 1 (p k) (q k) (x.bits k) (y.bits k);
        is = joined-and 32 p q x.bits y.bits ∙ ap₂ bit_and x.is y.is;
      }

pub joins-window : (w : List ℕ) (j : ℕ) → Joins (λ k. w ! (j + k)) (window w j)
unfolding window
joins-window w j = record { bits = λ k. bit-of w (j + k); is = refl }

pub joins-agree : {p q : ℕ → ℕ} {P : ℕ} → ((k : ℕ) → k < 32 → q k ≡ p k) → Joins p P → joined_down 32 q ≡ P
joins-agree {p} {q} e x = joined-agree 32 q p e ∙ x.is

-- ---- what is fed is the exclusive or of windows

pub fed-windows : (a : List ℕ) → length a ≡ 6 → let v = on a in
    fed_word a
    ≡ window v 0 ⊕ window v 3 ⊕ window v 4 ⊕ window v 23 ⊕ window v 36 ⊕ window v 37 ⊕ window v 60 ⊕ window v 61 ⊕ window v 98 ⊕ window v 115 ⊕ window v 146
    ⊕ window v 175 ⊕ window v 176 ⊕ window v 187
unfolding fed_word l
fed-windows a six =
    joins-agree
    (λ k h.
    let t : (j : ℕ) → j < 192 → iter k clocked a ! j ≡ on a ! (j + k) = turned a six k (omega arith) in
    x (x (x (x (x (x (x (x (x (x (x (x (x (t 0 (lit< tt)) (t 3 (lit< tt))) (t 4 (lit< tt))) (t 23 (lit< tt))) (t 36 (lit< tt))) (t 37 (lit< tt)))
    (t 60 (lit< tt))) (t 61 (lit< tt))) (t 98 (lit< tt))) (t 115 (lit< tt))) (t 146 (lit< tt))) (t 175 (lit< tt))) (t 176 (lit< tt))) (t 187 (lit< tt)))
    (j (j (j (j (j (j (j (j (j (j (j (j (j (w 0) (w 3)) (w 4)) (w 23)) (w 36)) (w 37)) (w 60)) (w 61)) (w 98)) (w 115)) (w 146)) (w 175)) (w 176)) (w 187))
  where
    x : {b c d e : ℕ} → b ≡ c → d ≡ e → b ⊕ d ≡ c ⊕ e
    x p q = ap₂ bit_xor p q

    w : (i : ℕ) → Joins (λ k. on a ! (i + k)) (window (on a) i)
    w i = joins-window (on a) i

    j : {p q : ℕ → ℕ} {P Q : ℕ} → Joins p P → Joins q Q → Joins (λ k. p k ⊕ q k) (P ⊕ Q)
    j = joins-xor

-- ---- windows as the code makes them

-- a word moved up keeps its low bits
pub moved_up : (x m : ℕ) → m < 32 → x % 2 ^ (32 - m) * 2 ^ m ≡ x * 2 ^ m % 2 ^ 32
moved_up x m h =
    let n : 32 - m + m ≡ 32 = omega arith in
    sym (ap (λ (t : ℕ). x * 2 ^ m % 2 ^ t) (sym n)
    ∙ mod-pow-add (x * 2 ^ m) (32 - m) m
    ∙ ap₂ (λ (p q : ℕ). p % 2 ^ (32 - m) * 2 ^ m + q) (shl-shr x m) (mul-mod_left x (2 ^ m))
    ∙ add-zero (x % 2 ^ (32 - m) * 2 ^ m))

-- and the top m bits of the next are below it
pub top_below : (y m : ℕ) → m < 32 → y < 2 ^ 32 → y / 2 ^ (32 - m) < 2 ^ m
top_below y m h hy = let n : m + (32 - m) ≡ 32 = omega arith in shr_lt m (32 - m) (subst (λ (t : ℕ). y < 2 ^ t) (sym n) hy)

pub window-whole : (w : List ℕ) (i : ℕ) → get_or w i 0 < 2 ^ 32 → window w (32 * i) ≡ get_or w i 0
unfolding window
window-whole w i h =
    joined_is 32 (get_or w i 0) (λ k. w ! (32 * i + k)) (λ k q. let e : 31 - k ≡ 32 - suc k = omega arith in at w i k q ∙ ap (λ (n : ℕ). bit n (get_or w i 0)) e)
    ∙ mod-eq_of_lt h

pub window-spliced : (w : List ℕ) (i m : ℕ) → 0 < m → m < 32 → get_or w (i + 1) 0 < 2 ^ 32 → window w (32 * i + m) ≡ spliced (get_or w i 0) (get_or w (i + 1) 0) m
unfolding window
window-spliced w i m hm h hy =
    let n : 32 - m + m ≡ 32 = omega arith in
    let x = get_or w i 0 in
    let y = get_or w (i + 1) 0 in
    let f : ℕ → ℕ = λ k. w ! (32 * i + m + k) in
    ap (λ (t : ℕ). joined_down t f) (sym n)
    ∙ joined-split (32 - m) m f
    ∙ ap₂ (λ (p q : ℕ). p * 2 ^ m + q)
    (joined_is (32 - m) x f
    (λ k q.
    let e : 32 * i + m + k ≡ 32 * i + (m + k) = omega arith in
    let r : 31 - (m + k) ≡ 32 - m - suc k = omega arith in
    ap (λ (t : ℕ). w ! t) e ∙ at w i (m + k) (omega arith) ∙ ap (λ (t : ℕ). bit t x) r))
    (joined_is m (y / 2 ^ (32 - m)) (λ k. f (32 - m + k))
    (λ k q.
    let e : 32 * i + m + (32 - m + k) ≡ 32 * (i + 1) + k = omega arith in
    let r : 31 - k ≡ 32 - m + (m - suc k) = omega arith in
    ap (λ (t : ℕ). w ! t) e ∙ at w (i + 1) k (omega arith) ∙ ap (λ (t : ℕ). bit t y) r ∙ ap (λ (t : ℕ). t % 2) (sym (shr-shr y (32 - m) (m - suc k))))
    ∙ mod-eq_of_lt (top_below y m h hy))
    ∙ ap (λ (p : ℕ). p + y / 2 ^ (32 - m)) (moved_up x m h)
