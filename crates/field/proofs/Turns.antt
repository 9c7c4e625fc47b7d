-- Products and inverses as code works them out, turn by turn, by whatever makes a product with x, and by whatever makes a product.
-- Assumes nothing.
use mathlib.Core.Path.{◌≡◌, refl, ap, sym, ◌∙◌}
use Prim.Native.Nat.{ℕ, zero, suc, ◌-◌, ◌/◌, ◌%◌, ◌<◌, ◌≤◌}
use native.Mathlib.Nat.{not-suc-le-zero}
use native.Mathlib.Numerals.{sub-one}
use lib.Bits.{xor_zero_r}
use Rattle.words.specs.Word.{◌⊕◌}
use Rattle.words.proofs.Xor.{xor_assoc}
use Rattle.field.specs.Gf2.{if_one, mul_digits, squares}

-- a digit that is not 0 is 1
pub if_one-one : (d a : ℕ) → (d ≡ 0 → ⊥) → a ≡ if_one d a
if_one-one zero a h = absurd (h refl)
if_one-one (suc d) a h = refl

pub if_one-none : (d a : ℕ) → d ≡ 0 → 0 ≡ if_one d a
if_one-none d a e = ap (λ (k : ℕ). if_one k a) (sym e)

module _ (by_x : ℕ → ℕ) (sum x y : ℕ) where
  -- a digit of the second factor is taken into the sum
  pub digit-taken : (left : ℕ) {t : ℕ} → 0 < left → sum ⊕ mul_digits by_x left x y ≡ t → (sum ⊕ if_one (y % 2) x) ⊕ mul_digits by_x (left - 1) (by_x x) (y / 2) ≡ t
  digit-taken zero h e = absurd (not-suc-le-zero h)
  digit-taken (suc n) h e =
      ap (λ (k : ℕ). (sum ⊕ if_one (y % 2) x) ⊕ mul_digits by_x k (by_x x) (y / 2)) (sub-one (suc n))
      ∙ xor_assoc sum (if_one (y % 2) x) (mul_digits by_x n (by_x x) (y / 2))
      ∙ e

  -- no digit is left
  pub digits-done : (left : ℕ) {t : ℕ} → left ≤ 0 → sum ⊕ mul_digits by_x left x y ≡ t → sum ≡ t
  digits-done zero h e = sym (xor_zero_r sum) ∙ e
  digits-done (suc n) h e = absurd (not-suc-le-zero h)

module _ (mul : ℕ → ℕ → ℕ) where
  -- a square is taken into the product
  pub square-taken : (left r a : ℕ) {s q t : ℕ} → 0 < left → s ≡ mul a a → q ≡ mul r s → squares mul left r a ≡ t → squares mul (left - 1) q s ≡ t
  unfolding squares
  square-taken zero r a h e f g = absurd (not-suc-le-zero h)
  square-taken (suc n) r a h e f g = rw (sub-one (suc n), f, e) g

  -- no square is left
  pub squares-done : (left r a : ℕ) {t : ℕ} → left ≤ 0 → squares mul left r a ≡ t → r ≡ t
  unfolding squares
  squares-done zero r a h e = e
  squares-done (suc n) r a h e = absurd (not-suc-le-zero h)
