-- The sums of a conference are the signed sums, clamped once at the end: by what is above and what is below zero, and sample by sample.
-- Assumes nothing.
use Prim.Native.Nat.{ℕ, zero, suc, ◌+◌, ◌-◌, ◌*◌, ◌/◌, ◌%◌, ◌^◌, ◌<◌, ◌≤◌, min}
use mathlib.Core.Path.{◌≡◌, refl, ap, ◌∙◌}
use mathlib.Core.List.{List, [], ◌∷◌}
use mathlib.Core.Bool.{Bool, true, false}
use native.Mathlib.Omega.{arith}
use lib.Dec.{ltb}
use lib.ListN.{length, get_or}
use borrow.Author.Tests.{ltb-true, ltb-false}
use Rattle.words.specs.Lists.{All, Byte}
use Rattle.words.specs.Tests.{pick}
use Rattle.words.proofs.Ranges.{at_byte}
use Rattle.card_mix.specs.Sums.{two_at, raised, raised_sum, sum_at, sums_from, without, mix_for, up, down, ups, downs, ClampedSum}

abbrev pub AllTalks : List (List ℕ) → Type 0
AllTalks [] = Unit {0}
AllTalks (t ∷ ts) = All Byte t × AllTalks ts

raised_is : (t : List ℕ) (j : ℕ) → All Byte t → raised t j + down (two_at t (2 * j)) ≡ up (two_at t (2 * j)) + 2 ^ 15
raised_is t j h = go (ltb x (2 ^ 15)) refl
  where
    x : ℕ
    x = two_at t (2 * j)

    small : x < 2 ^ 16
    small = let a = at_byte h (2 * j) in let b = at_byte h (2 * j + 1) in omega (arith, a, b)

    go : (b : Bool) → ltb x (2 ^ 15) ≡ b → (x + 2 ^ 15) % 2 ^ 16 + pick b 0 (2 ^ 16 - x) ≡ pick b x 0 + 2 ^ 15
    go true e = let q = ltb-true x (2 ^ 15) e in omega (arith, q)
    go false e = let q = ltb-false x (2 ^ 15) e in let s = small in omega (arith, q, s)

raised-sum-is : (ts : List (List ℕ)) (j : ℕ) → AllTalks ts → raised_sum ts j + downs ts j ≡ ups ts j + 2 ^ 15 * length ts
raised-sum-is [] j h = refl
raised-sum-is (t ∷ ts) j h =
    let a = raised_is t j h.0 in
    let b = raised-sum-is ts j h.1 in
    omega (arith, a, b)

clamp : (r d u k : ℕ) → r + d ≡ u + 2 ^ 15 * k → d ≤ u + 2 ^ 15 → u < d + 2 ^ 15 →
    up ((min (2 ^ 16 - 1) (r + 2 ^ 15 - 2 ^ 15 * k) + 2 ^ 15) % 2 ^ 16) + d ≡ down ((min (2 ^ 16 - 1) (r + 2 ^ 15 - 2 ^ 15 * k) + 2 ^ 15) % 2 ^ 16) + u
clamp r d u k e p q = go (ltb s (2 ^ 15)) refl
  where
    s : ℕ
    s = (min (2 ^ 16 - 1) (r + 2 ^ 15 - 2 ^ 15 * k) + 2 ^ 15) % 2 ^ 16

    go : (b : Bool) → ltb s (2 ^ 15) ≡ b → pick b s 0 + d ≡ pick b 0 (2 ^ 16 - s) + u
    go true z = let w = ltb-true s (2 ^ 15) z in omega (arith, w, e, p, q)
    go false z = let w = ltb-false s (2 ^ 15) z in omega (arith, w, e, p, q)

-- The sums are the signed sums, clamped.
pub clamped-sum : (ts : List (List ℕ)) (j : ℕ) → AllTalks ts → ClampedSum ts j
clamped-sum ts j h =
    let e = raised-sum-is ts j h in
    record {
      inside = λ p q. clamp (raised_sum ts j) (downs ts j) (ups ts j) (length ts) e p q;
      above = λ p. omega (arith, e, p);
      below = λ p. omega (arith, e, p);
    }

-- ---- sample by sample

-- sample j of what member t is sent is the clamped sum of the others' samples j
sample-at : (s k j : ℕ) (ts : List (List ℕ)) → j < s → two_at (sums_from s k ts) (2 * j) ≡ sum_at ts (k + j)
sample-at zero k j ts q = absurd (omega (arith, q))
sample-at (suc s) k zero ts q =
    let e : sum_at ts k / 256 * 256 + sum_at ts k % 256 ≡ sum_at ts k = omega arith in
    e ∙ ap (sum_at ts) (let z : k ≡ k + 0 = omega arith in z)
sample-at (suc s) k (suc j) ts q =
    ap (two_at (sums_from (suc s) k ts)) (let z : 2 * suc j ≡ suc (suc (2 * j)) = omega arith in z)
    ∙ ap (λ (z : ℕ). get_or (sums_from s (suc k) ts) (2 * j) 0 * 256 + get_or (sums_from (suc s) k ts) z 0) (let z : suc (suc (2 * j)) + 1 ≡ suc (suc (2 * j + 1)) = omega arith in z)
    ∙ sample-at s (suc k) j ts (omega (arith, q)) ∙ ap (sum_at ts) (let z : suc k + j ≡ k + suc j = omega arith in z)

pub mix-sample : (s t j : ℕ) (talks : List (List ℕ)) → j < s → two_at (mix_for (2 * s) talks t) (2 * j) ≡ sum_at (without t talks) j
unfolding mix_for
mix-sample s t j talks q =
    ap (λ (k : ℕ). two_at (sums_from k 0 (without t talks)) (2 * j)) (let z : 2 * s / 2 ≡ s = omega arith in z)
    ∙ sample-at s 0 j (without t talks) q ∙ ap (sum_at (without t talks)) (let z : 0 + j ≡ j = omega arith in z)

-- the others are all but the member's own: those before it, and those after it one place down
pub others-before : (ts : List (List ℕ)) (t s : ℕ) → s < t → get_or (without t ts) s [] ≡ get_or ts s []
others-before [] t s q = refl
others-before (x ∷ ts) zero s q = absurd (omega (arith, q))
others-before (x ∷ ts) (suc t) zero q = refl
others-before (x ∷ ts) (suc t) (suc s) q = others-before ts t s (omega (arith, q))

pub others-after : (ts : List (List ℕ)) (t s : ℕ) → t ≤ s → get_or (without t ts) s [] ≡ get_or ts (suc s) []
others-after [] t s q = refl
others-after (x ∷ ts) zero s q = refl
others-after (x ∷ ts) (suc t) zero q = absurd (omega (arith, q))
others-after (x ∷ ts) (suc t) (suc s) q = others-after ts t s (omega (arith, q))

pub one_fewer : (ts : List (List ℕ)) (t : ℕ) → t < length ts → suc (length (without t ts)) ≡ length ts
one_fewer [] t q = absurd (omega (arith, q))
one_fewer (x ∷ ts) zero q = refl
one_fewer (x ∷ ts) (suc t) q = ap suc (one_fewer ts t (omega (arith, q)))
