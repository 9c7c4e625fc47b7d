-- When a change comes due, and the position past it, as comparisons of the numbers; a test by differences, in which no sum wraps, is the test by sums.
-- Assumes nothing.
use Prim.Native.Nat.{ℕ, ◌+◌, ◌-◌, ◌<◌, ◌≤◌}
use mathlib.Core.Path.{◌≡◌, refl, ap, sym, ◌∙◌}
use mathlib.Core.Bool.{Bool, true, false}
use native.Mathlib.Omega.{arith}
use lib.Dec.{ltb, leb}
use borrow.Author.Tests.{ltb-true, ltb-false, leb-true, leb-false, lt-ltb, le-ltb, le-leb, lt-leb}
use Rattle.words.specs.Tests.{both, pick}
use Rattle.card_sizes.specs.Sizes.{limit}
use Rattle.card_moves.specs.Moves.{comes_due, position_on}

-- ---- whether a change comes due

module _ (n d k : ℕ) where
  pub due-yes : n < d → d ≤ n + k → comes_due n d k ≡ true
  unfolding comes_due
  due-yes h q = rw (lt-ltb n d h, le-leb d (n + k) q)

  pub due-no : (n < d → n + k < d) → comes_due n d k ≡ false
  unfolding comes_due
  due-no f = go (ltb n d) refl
    where
      go : (b : Bool) → ltb n d ≡ b → both b (leb d (n + k)) ≡ false
      go true e = lt-leb d (n + k) (f (ltb-true n d e))
      go false e = refl

  -- the test by differences, in which no sum wraps
  pub by-difference : n < d → leb (d - n) k ≡ comes_due n d k
  unfolding comes_due
  by-difference h = go (leb (d - n) k) refl ∙ sym (ap (λ (b : Bool). both b (leb d (n + k))) (lt-ltb n d h))
    where
      go : (b : Bool) → leb (d - n) k ≡ b → b ≡ leb d (n + k)
      go true q = let z = leb-true (d - n) k q in sym (le-leb d (n + k) (omega (arith, z, h)))
      go false q = let z = leb-false (d - n) k q in sym (lt-leb d (n + k) (omega (arith, z, h)))

  pub not-above : (n < d → ⊥) → ltb n d ≡ comes_due n d k
  not-above f = le-ltb n d (omega (arith, f)) ∙ sym (due-no (λ h. absurd (f h)))

  pub due-told : comes_due n d k ≡ true → (n < d) × (d ≤ n + k)
  unfolding comes_due
  due-told h = go (ltb n d) refl h
    where
      go : (b : Bool) → ltb n d ≡ b → both b (leb d (n + k)) ≡ true → (n < d) × (d ≤ n + k)
      go true e h = (ltb-true n d e, leb-true d (n + k) h)
      go false e h = absurd (let z : ◌≡◌ {A = ℕ} 0 1 = cc in omega arith)

  pub not-told : comes_due n d k ≡ false → n < d → n + k < d
  unfolding comes_due
  not-told h q = leb-false d (n + k) (sym (ap (λ (b : Bool). both b (leb d (n + k))) (lt-ltb n d q)) ∙ h)

  -- ---- the position

  pub on-past : comes_due n d k ≡ true → position_on n d k ≡ n + k - d
  unfolding position_on
  on-past e = ap (λ (b : Bool). pick b (n + k - d) (n + k)) e

  pub on-short : comes_due n d k ≡ false → position_on n d k ≡ n + k
  unfolding position_on
  on-short e = ap (λ (b : Bool). pick b (n + k - d) (n + k)) e

  pub past_is : comes_due n d k ≡ true → ltb limit (k - (d - n)) ≡ ltb limit (position_on n d k)
  past_is e =
      let h = due-told e in
      let z : k - (d - n) ≡ n + k - d = omega (arith, h.0, h.1) in
      ap (ltb limit) (z ∙ sym (on-past e))

  pub over-is : comes_due n d k ≡ false → limit < k → true ≡ ltb limit (position_on n d k)
  over-is e h = sym (ap (ltb limit) (on-short e) ∙ lt-ltb limit (n + k) (omega (arith, h)))

  pub short-is : comes_due n d k ≡ false → k ≤ limit → ltb (limit - k) n ≡ ltb limit (position_on n d k)
  short-is e h = go (ltb (limit - k) n) refl ∙ sym (ap (ltb limit) (on-short e))
    where
      go : (b : Bool) → ltb (limit - k) n ≡ b → b ≡ ltb limit (n + k)
      go true q = let z = ltb-true (limit - k) n q in sym (lt-ltb limit (n + k) (omega (arith, z, h)))
      go false q = let z = ltb-false (limit - k) n q in sym (le-ltb limit (n + k) (omega (arith, z, h)))
