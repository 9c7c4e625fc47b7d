-- The ring of polynomials over GF(2) modulo one of degree d: products are additive in both factors, so that each law need only be shown at the powers of x, where a product is
-- so many products with x.
-- Assumes nothing.
use mathlib.Core.Path.{◌≡◌, refl, ap, ap₂, sym, ◌∙◌}
use Prim.Native.Nat.{ℕ, zero, suc, ◌-◌, ◌*◌, ◌/◌, ◌%◌, ◌<◌, ◌^◌}
use native.Mathlib.Nat.{not-suc-le-zero, le_of_suc-le-suc, mod-eq_of_lt, div-eq_of_lt, pow-suc}
use native.Mathlib.Omega.{arith}
use lib.Bits.{bit_xor, xor_zero_r, xor_self}
use lib.Pow.{pow-lt}
use Rattle.words.specs.Word.{◌⊕◌}
use Rattle.words.specs.Lists.{iter}
use Rattle.field.specs.Gf2.{if_one, times_x, mul_digits}
use Rattle.field.proofs.Additive.{Additive, then-of, times_x-sum, times_x-lt, mul-sum, mul-sum-r, mul-lt, known}

-- what is asked of a product with x: it is additive, has d digits, and takes a power of x to the next
pub record ByX (d : ℕ) (by_x : ℕ → ℕ) : Type 0 where
  pub some : 0 < d
  pub sums : Additive by_x
  pub under : (a : ℕ) → by_x a < 2 ^ d
  pub next : (i : ℕ) → suc i < d → by_x (2 ^ i) ≡ 2 ^ suc i

-- modulo a polynomial p of degree d
pub by-times_x : (d p : ℕ) → 0 < d → ByX d (times_x d p)
by-times_x d p h =
    record {
      some = h;
      sums = times_x-sum d p;
      under = times_x-lt d p;
      next = up;
    }
  where
    up : (i : ℕ) → suc i < d → times_x d p (2 ^ i) ≡ 2 ^ suc i
    up i q =
        let double : 2 ^ i * 2 % 2 ^ d ≡ 2 ^ suc i = ap (λ (x : ℕ). x % 2 ^ d) (sym (pow-suc 2 i)) ∙ mod-eq_of_lt (pow-lt q) in
        let below : i < d - 1 = omega arith in
        let none : 2 ^ i / 2 ^ (d - 1) % 2 ≡ 0 = ap (λ (x : ℕ). x % 2) (div-eq_of_lt (pow-lt below)) in
        ap₂ (λ (x y : ℕ). x ⊕ if_one y (p % 2 ^ d)) double none ∙ xor_zero_r (2 ^ suc i)

if_one-zero : (d : ℕ) → if_one d 0 ≡ 0
if_one-zero zero = refl
if_one-zero (suc d) = refl

even : (i : ℕ) → 2 ^ suc i % 2 ≡ 0
even i = ap (λ (x : ℕ). x % 2) (pow-suc 2 i) ∙ (let y : ℕ = 2 ^ i in let z : y * 2 % 2 ≡ 0 = omega arith in z)

half : (i : ℕ) → 2 ^ suc i / 2 ≡ 2 ^ i
half i = ap (λ (x : ℕ). x / 2) (pow-suc 2 i) ∙ (let y : ℕ = 2 ^ i in let z : y * 2 / 2 ≡ y = omega arith in z)

iter-back : (f : ℕ → ℕ) (i a : ℕ) → iter i f (f a) ≡ f (iter i f a)
unfolding iter
iter-back f zero a = refl
iter-back f (suc i) a = ap f (iter-back f i a)

digits-zero-r : (by_x : ℕ → ℕ) (n a : ℕ) → mul_digits by_x n a 0 ≡ 0
digits-zero-r by_x zero a = refl
digits-zero-r by_x (suc n) a = digits-zero-r by_x n (by_x a)

-- a times 2^i: i times x
digits-pow : (by_x : ℕ → ℕ) (n i a : ℕ) → i < n → mul_digits by_x n a (2 ^ i) ≡ iter i by_x a
unfolding iter
digits-pow by_x zero i a h = absurd (not-suc-le-zero h)
digits-pow by_x (suc n) zero a h = ap (λ (x : ℕ). a ⊕ x) (digits-zero-r by_x n (by_x a)) ∙ xor_zero_r a
digits-pow by_x (suc n) (suc i) a h =
    ap₂ (λ (x y : ℕ). if_one x a ⊕ mul_digits by_x n (by_x a) y) (even i) (half i) ∙ digits-pow by_x n i (by_x a) (le_of_suc-le-suc h) ∙ iter-back by_x i a

module _ (d : ℕ) (by_x : ℕ → ℕ) (m : ByX d by_x) where
  -- the product
  abbrev mul : ℕ → ℕ → ℕ
  mul a b = mul_digits by_x d a b

  x-zero : by_x 0 ≡ 0
  x-zero = m.sums 0 0 ∙ xor_self (by_x 0)

  digits-zero : (n b : ℕ) → mul_digits by_x n 0 b ≡ 0
  digits-zero zero b = refl
  digits-zero (suc n) b = ap₂ bit_xor (if_one-zero (b % 2)) (ap (λ (x : ℕ). mul_digits by_x n x (b / 2)) x-zero ∙ digits-zero n (b / 2))

  if_one-x : (e a : ℕ) → if_one e (by_x a) ≡ by_x (if_one e a)
  if_one-x zero a = sym x-zero
  if_one-x (suc e) a = refl

  digits-x : (n a b : ℕ) → mul_digits by_x n (by_x a) b ≡ by_x (mul_digits by_x n a b)
  digits-x zero a b = sym x-zero
  digits-x (suc n) a b =
      ap₂ bit_xor (if_one-x (b % 2) a) (digits-x n (by_x a) (b / 2)) ∙ sym (m.sums (if_one (b % 2) a) (mul_digits by_x n (by_x a) (b / 2)))

  pub mul-under : (a b : ℕ) → a < 2 ^ d → mul a b < 2 ^ d
  mul-under a b h = mul-lt d by_x m.under d a b h

  pub mul-zero : (b : ℕ) → mul 0 b ≡ 0
  mul-zero b = digits-zero d b

  pub mul-zero-r : (a : ℕ) → mul a 0 ≡ 0
  mul-zero-r a = digits-zero-r by_x d a

  pub mul-add : (b : ℕ) → Additive (λ a. mul a b)
  mul-add b = mul-sum by_x m.sums d b

  pub mul-add-r : (a : ℕ) → Additive (mul a)
  mul-add-r a = mul-sum-r by_x d a

  pub mul-pow : (i a : ℕ) → i < d → mul a (2 ^ i) ≡ iter i by_x a
  mul-pow i a h = digits-pow by_x d i a h

  -- x^i is 2^i below d
  power : (i : ℕ) → i < d → 2 ^ i ≡ iter i by_x 1
  unfolding iter
  power zero h = refl
  power (suc i) h = sym (m.next i h) ∙ ap by_x (power i (omega (arith, h)))

  pub mul-one-r : (a : ℕ) → mul a 1 ≡ a
  unfolding iter
  mul-one-r a = mul-pow 0 a m.some

  pub mul-one : (b : ℕ) → b < 2 ^ d → mul 1 b ≡ b
  mul-one b h = known (mul 1) (λ x. x) (mul-add-r 1) (λ u v. refl) (mul-zero-r 1) d (λ i q. mul-pow i 1 q ∙ sym (power i q)) b h

  iter-mul : (i a b : ℕ) → mul (iter i by_x a) b ≡ iter i by_x (mul a b)
  unfolding iter
  iter-mul zero a b = refl
  iter-mul (suc i) a b = digits-x d (iter i by_x a) b ∙ ap by_x (iter-mul i a b)

  pub mul_comm : (a b : ℕ) → a < 2 ^ d → b < 2 ^ d → mul a b ≡ mul b a
  mul_comm a b ha hb =
      known (λ x. mul x b) (mul b) (mul-add b) (mul-add-r b) (mul-zero b ∙ sym (mul-zero-r b)) d
      (λ i q. ap (λ (x : ℕ). mul x b) (power i q) ∙ iter-mul i 1 b ∙ ap (iter i by_x) (mul-one b hb) ∙ sym (mul-pow i b q)) a ha

  mul-x-r : (a b : ℕ) → a < 2 ^ d → b < 2 ^ d → mul a (by_x b) ≡ by_x (mul a b)
  mul-x-r a b ha hb = mul_comm a (by_x b) ha (m.under b) ∙ digits-x d b a ∙ ap by_x (mul_comm b a hb ha)

  iter-under : (i b : ℕ) → b < 2 ^ d → iter i by_x b < 2 ^ d
  unfolding iter
  iter-under zero b h = h
  iter-under (suc i) b h = m.under (iter i by_x b)

  iter-mul-r : (i a b : ℕ) → a < 2 ^ d → b < 2 ^ d → mul a (iter i by_x b) ≡ iter i by_x (mul a b)
  unfolding iter
  iter-mul-r zero a b ha hb = refl
  iter-mul-r (suc i) a b ha hb = mul-x-r a (iter i by_x b) ha (iter-under i b hb) ∙ ap by_x (iter-mul-r i a b ha hb)

  pub mul_assoc : (a b c : ℕ) → a < 2 ^ d → b < 2 ^ d → c < 2 ^ d → mul (mul a b) c ≡ mul a (mul b c)
  mul_assoc a b c ha hb hc =
      known (mul (mul a b)) (λ x. mul a (mul b x)) (mul-add-r (mul a b)) (then-of (mul a) (mul b) (mul-add-r a) (mul-add-r b))
      (mul-zero-r (mul a b) ∙ sym (ap (mul a) (mul-zero-r b) ∙ mul-zero-r a)) d
      (λ i q. mul-pow i (mul a b) q ∙ sym (ap (mul a) (mul-pow i b q) ∙ iter-mul-r i a b ha hb)) c hc
