-- Folding to k bits: the part of a number above them is added to the part that they hold. A fold takes 2^k - 1 away once for each 1 that it moves down, so the
-- remainder by 2^k - 1 stays; both parts are 0 only where the number is, so a positive number stays positive; and a number of 2 k bits is down to k after two
-- folds. A positive number of at most 31 bits is its own remainder by 2^31 - 1, or it is 2^31 - 1 and the remainder is 0: in both cases it is the remainder, mended.
-- Assumes nothing.
use Rattle.std.proofs.Common.{◌≡◌, ℕ, zero, suc, ◌+◌, ◌-◌, ◌*◌, ◌/◌, ◌%◌, ◌^◌, ◌<◌, ◌≤◌, ◌⊎◌, sym, refl, ap, ◌∙◌, inl, inr, mod-lt, mod-eq_of_lt, div-lt_iff_lt-mul, eq-or-lt_of_le, mul-suc, arith, pow_pos, shr_lt}
use native.Mathlib.Nat.{mul-add-mod_self_right}
use lib.Pow.{split, suc_ones, le_ones}
use Rattle.zuc.specs.Cipher.{mended}

abbrev pub fold : ℕ → ℕ → ℕ
fold k x = x % 2 ^ k + x / 2 ^ k

-- what a fold takes away
taken : (k x : ℕ) → x / 2 ^ k * (2 ^ k - 1) + fold k x ≡ x
taken k x = omega (arith, mul-suc (x / 2 ^ k) (2 ^ k - 1), ap (λ (m : ℕ). x / 2 ^ k * m) (suc_ones k), split x k)

-- the remainder stays
pub fold-mod : (k x : ℕ) → fold k x % (2 ^ k - 1) ≡ x % (2 ^ k - 1)
fold-mod k x = sym (mul-add-mod_self_right (x / 2 ^ k) (2 ^ k - 1) (fold k x)) ∙ ap (λ (y : ℕ). y % (2 ^ k - 1)) (taken k x)

not-both : (q m r : ℕ) → 1 ≤ q * m + r → 1 ≤ r + q
not-both zero m r h = omega arith
not-both (suc q) m r h = omega arith

-- a positive number stays positive
pub fold-pos : (k x : ℕ) → 1 ≤ x → 1 ≤ fold k x
fold-pos k x h = not-both (x / 2 ^ k) (2 ^ k) (x % 2 ^ k) (omega (arith, split x k))

-- from 2 k bits to k + 1, and not to the greatest number of k + 1
pub fold-once : (k x : ℕ) → x < 2 ^ (k + k) → fold k x + 2 ≤ 2 ^ k + 2 ^ k
fold-once k x h = omega (arith, mod-lt x (pow_pos k), shr_lt k k h)

carried : (q m r : ℕ) → q < 2 → r < m → q * m + r + 2 ≤ m + m → r + q < m
carried zero m r h k l = omega arith
carried (suc zero) m r h k l = omega arith
carried (suc (suc q)) m r h k l = omega arith

-- and from there to k
fold-again : (k x : ℕ) → x + 2 ≤ 2 ^ k + 2 ^ k → fold k x < 2 ^ k
fold-again k x h =
    carried (x / 2 ^ k) (2 ^ k) (x % 2 ^ k) ((div-lt_iff_lt-mul (pow_pos k)).1 (omega arith)) (mod-lt x (pow_pos k)) (omega (arith, split x k))

stays : (x : ℕ) → 1 ≤ x → x ≡ mended x
unfolding mended
stays zero h = omega arith
stays (suc x) h = refl

-- a positive number of at most 31 bits is its mended remainder
mended-mod : (x : ℕ) → 1 ≤ x → x < 2 ^ 31 → x ≡ mended (x % (2 ^ 31 - 1))
unfolding mended
mended-mod x h l = go (eq-or-lt_of_le (le_ones 31 l))
  where
    go : (x ≡ 2 ^ 31 - 1) ⊎ (x < 2 ^ 31 - 1) → x ≡ mended (x % (2 ^ 31 - 1))
    go (inl e) = rw e
    go (inr q) = rw (mod-eq_of_lt q) (stays x h)

-- what comes out of the last fold
pub last-fold : (x : ℕ) → 1 ≤ x → x < 2 ^ 32 - 1 → fold 31 x ≡ mended (x % (2 ^ 31 - 1))
last-fold x h l = mended-mod (fold 31 x) (fold-pos 31 x h) (fold-again 31 x (omega arith)) ∙ ap mended (fold-mod 31 x)
