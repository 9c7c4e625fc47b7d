-- Numbers and rows of words by their bits: a number is joined from its bits, bits that are moved up by one or set make the numbers that the code's shifts make.
-- Assumes nothing.
use mathlib.Core.Path.{◌≡◌, refl, ap, ap₂, sym, ◌∙◌}
use mathlib.Core.Bool.{Bool, true, false}
use mathlib.Core.List.{List, [], ◌∷◌, ◌++◌}
use Prim.Native.Nat.{ℕ, zero, suc, ◌+◌, ◌*◌, ◌/◌, ◌%◌, ◌-◌, ◌^◌, ◌<◌, ◌≤◌}
use native.Mathlib.Nat.{mod-one, pow-suc, add-zero, add-suc, mul-one, mul_assoc, le_of_suc-le-suc}
use native.Mathlib.Numerals.{add-one}
use native.Mathlib.Omega.{arith}
use lib.Arith.{lt_of_le-ne}
use lib.Dec.{eqb, ltb, lit<}
use lib.Pow.{mod-pow-add, shr-shr}
use lib.ListN.{get_or}
use borrow.Author.Tests.{lt-ltb, le-ltb, ne_eqb, eqb-true, eqb-false}
use Rattle.words.specs.Word.{bit}
use Rattle.words.specs.Lists.{tab}
use Rattle.words.specs.Tests.{pick}
use Rattle.words.proofs.Registers.{cons}
use Rattle.decim_register.specs.Register.{bit_in, ◌!◌, joined_down, of_bits, moved_in}

twice : (x n : ℕ) → x * 2 ^ suc n ≡ x * 2 ^ n * 2
twice x n = rw (pow-suc, mul_assoc)

-- ---- joined bits

pub joined-agree : (n : ℕ) (f g : ℕ → ℕ) → ((j : ℕ) → j < n → f j ≡ g j) → joined_down n f ≡ joined_down n g
unfolding joined_down
joined-agree zero f g h = refl
joined-agree (suc n) f g h =
    ap₂ (λ (x y : ℕ). x * 2 + y) (joined-agree n f g (λ j q. h j (omega arith))) (h n (omega arith))

-- a number below 2^n
pub joined-below : (n : ℕ) (f : ℕ → ℕ) → ((j : ℕ) → j < n → f j < 2) → joined_down n f < 2 ^ n
unfolding joined_down
joined-below zero f h = lit< tt
joined-below (suc n) f h =
    let a = joined-below n f (λ j q. h j (omega arith)) in
    let b = h n (omega arith) in
    rw pow-suc (omega arith)

-- the lowest n bits of x
pub joined-bits : (n x : ℕ) → joined_down n (λ j. x / 2 ^ (n - suc j) % 2) ≡ x % 2 ^ n
unfolding joined_down
joined-bits zero x = sym (mod-one x)
joined-bits (suc n) x =
    ap₂ (λ (p q : ℕ). p * 2 + q)
    (joined-agree n (λ j. x / 2 ^ (suc n - suc j) % 2) (λ j. x / 2 / 2 ^ (n - suc j) % 2)
    (λ j h. let e : suc n - suc j ≡ 1 + (n - suc j) = omega arith in ap (λ (k : ℕ). x / 2 ^ k % 2) e ∙ ap (λ (k : ℕ). k % 2) (sym (shr-shr x 1 (n - suc j))))
    ∙ joined-bits n (x / 2))
    (let e : suc n - suc n ≡ 0 = omega arith in ap (λ (k : ℕ). x / 2 ^ k % 2) e ∙ (omega arith))
    ∙ sym (mod-pow-add x n 1 ∙ refl)
    ∙ ap (λ (k : ℕ). x % 2 ^ k) (add-one n)

-- the same, of bits that are those of x
pub joined_is : (n x : ℕ) (f : ℕ → ℕ) → ((j : ℕ) → j < n → f j ≡ x / 2 ^ (n - suc j) % 2) → joined_down n f ≡ x % 2 ^ n
joined_is n x f h = joined-agree n f (λ j. x / 2 ^ (n - suc j) % 2) h ∙ joined-bits n x

-- in two parts
pub joined-split : (m n : ℕ) (f : ℕ → ℕ) → joined_down (m + n) f ≡ joined_down m f * 2 ^ n + joined_down n (λ j. f (m + j))
unfolding joined_down
joined-split m zero f = ap (λ (k : ℕ). joined_down k f) (add-zero m) ∙ omega arith
joined-split m (suc n) f =
    ap (λ (k : ℕ). joined_down k f) (add-suc m n)
    ∙ ap (λ (x : ℕ). x * 2 + f (m + n)) (joined-split m n f)
    ∙ (let e : joined_down m f * 2 ^ suc n ≡ joined_down m f * 2 ^ n * 2 = twice (joined_down m f) n in omega arith)

-- ---- one bit set

-- the bit that was there, at its place, is exchanged for c
pub joined-set : (n i c : ℕ) (f : ℕ → ℕ) → i < n
    → joined_down n (λ j. pick (eqb j i) c (f j)) + f i * 2 ^ (n - suc i) ≡ joined_down n f + c * 2 ^ (n - suc i)
unfolding joined_down
joined-set zero i c f h = elim h [ ]
joined-set (suc n) i c f h = by (joined-set n i c f) (eqb n i) refl
  where
    set : ℕ → ℕ
    set j = pick (eqb j i) c (f j)

    by : (i < n → joined_down n set + f i * 2 ^ (n - suc i) ≡ joined_down n f + c * 2 ^ (n - suc i)) → (b : Bool) → eqb n i ≡ b
        → joined_down n set * 2 + set n + f i * 2 ^ (suc n - suc i) ≡ joined_down n f * 2 + f n + c * 2 ^ (suc n - suc i)
    by less true e =
        let q : n ≡ i = eqb-true n i e in
        let z : suc n - suc i ≡ 0 = omega arith in
        let one : (x : ℕ) → x * 2 ^ (suc n - suc i) ≡ x = λ x. ap (λ (k : ℕ). x * 2 ^ k) z ∙ mul-one x in
        let a : joined_down n set ≡ joined_down n f =
        joined-agree n set f (λ j k. ap (λ (b : Bool). pick b c (f j)) (ne_eqb j i (λ w. absurd (omega arith)))) in
        let b : set n ≡ c = ap (λ (b : Bool). pick b c (f n)) e in
        let d : f i ≡ f n = ap f (sym q) in
        omega (arith, one (f i), one c)
    by less false e =
        let k : i < n = lt_of_le-ne (le_of_suc-le-suc h) (λ q. eqb-false n i e (sym q)) in
        let z : suc n - suc i ≡ suc (n - suc i) = omega arith in
        let two : (x : ℕ) → x * 2 ^ (suc n - suc i) ≡ x * 2 ^ (n - suc i) * 2 = λ x. ap (λ (k : ℕ). x * 2 ^ k) z ∙ twice x (n - suc i) in
        let b : set n ≡ f n = ap (λ (b : Bool). pick b c (f n)) e in
        omega (arith, two (f i), two c, less k)

-- ---- a bit of a row of words

pub at : (w : List ℕ) (i m : ℕ) → m < 32 → w ! (32 * i + m) ≡ bit_in (get_or w i 0) m
at w i m h =
    let q : (32 * i + m) / 32 ≡ i = omega arith in
    let r : (32 * i + m) % 32 ≡ m = omega arith in
    ap₂ (λ (x y : ℕ). bit_in (get_or w x 0) y) q r

-- ---- the register moved

-- a word whose bits are those of x from the second on, and then r
moved_word : (x r : ℕ) (f : ℕ → ℕ) → ((j : ℕ) → j < 31 → f j ≡ x / 2 ^ (31 - suc j) % 2) → f 31 ≡ r → joined_down 32 f ≡ x * 2 % 2 ^ 32 + r
unfolding joined_down
moved_word x r f h e = ap₂ (λ (p q : ℕ). p * 2 + q) (joined_is 31 x f h) e ∙ omega arith

module _ (w : List ℕ) (r i : ℕ) (f : ℕ → ℕ) (is : (j : ℕ) → f j ≡ pick (ltb (32 * i + j) 191) (w ! (32 * i + j + 1)) r) where
  early : (j : ℕ) → 32 * i + j < 191 → f j ≡ w ! (32 * i + (j + 1))
  early j h =
      let e : 32 * i + j + 1 ≡ 32 * i + (j + 1) = omega arith in
      is j
      ∙ ap (λ (b : Bool). pick b (w ! (32 * i + j + 1)) r) (lt-ltb (32 * i + j) 191 h)
      ∙ ap (λ (k : ℕ). w ! k) e

  inner : (j : ℕ) → j < 31 → i ≤ 5 → f j ≡ get_or w i 0 / 2 ^ (31 - suc j) % 2
  inner j h k =
      let e : 31 - (j + 1) ≡ 31 - suc j = omega arith in
      early j (omega arith) ∙ at w i (j + 1) (omega arith) ∙ ap (λ (k : ℕ). bit k (get_or w i 0)) e

  pub moved_at : i < 5 → joined_down 32 f ≡ get_or w i 0 * 2 % 2 ^ 32 + get_or w (i + 1) 0 / 2 ^ 31 % 2
  moved_at h =
      let e : 32 * i + (31 + 1) ≡ 32 * (i + 1) + 0 = omega arith in
      moved_word (get_or w i 0) (bit_in (get_or w (i + 1) 0) 0) f (λ j q. inner j q (omega arith))
      (early 31 (omega arith) ∙ ap (λ (k : ℕ). w ! k) e ∙ at w (i + 1) 0 (lit< tt))

  pub moved-last : i ≡ 5 → joined_down 32 f ≡ get_or w 5 0 * 2 % 2 ^ 32 + r
  moved-last e =
      moved_word (get_or w 5 0) r f (λ j q. inner j q (omega arith) ∙ ap (λ (k : ℕ). get_or w k 0 / 2 ^ (31 - suc j) % 2) e)
      (is 31 ∙ ap (λ (b : Bool). pick b (w ! (32 * i + 31 + 1)) r) (le-ltb (32 * i + 31) 191 (omega arith)))

-- all six words
pub moved : (w : List ℕ) (r : ℕ)
    → moved_in w r ≡ tab 5 (λ i. get_or w i 0 * 2 % 2 ^ 32 + get_or w (i + 1) 0 / 2 ^ 31 % 2) ++ ((get_or w 5 0 * 2 % 2 ^ 32 + r) ∷ [])
unfolding moved_in of_bits
moved w r =
    cons (moved_at w r 0 _ (λ j. refl) (lit< tt))
    (cons (moved_at w r 1 _ (λ j. refl) (lit< tt))
    (cons (moved_at w r 2 _ (λ j. refl) (lit< tt))
    (cons (moved_at w r 3 _ (λ j. refl) (lit< tt))
    (cons (moved_at w r 4 _ (λ j. refl) (lit< tt)) (cons (moved-last w r 5 _ (λ j. refl) refl) refl)))))
