-- The first block that is not 0: it is the one that the search finds, and where none is found all that were tried are 0.
-- Assumes nothing.
use mathlib.Core.Path.{◌≡◌, refl, ap, ◌∙◌}
use mathlib.Core.Bool.{Bool, true, false}
use Prim.Native.Nat.{ℕ, zero, suc, ◌<◌, ◌≤◌}
use native.Mathlib.Nat.{not-suc-le-zero, le_of_suc-le-suc}
use native.Mathlib.Omega.{arith}
use borrow.Author.Tests.{eq-eqb, ne_eqb, eqb-true, eqb-false}
use lib.Dec.{eqb}
use Rattle.words.specs.Tests.{pick}
use Rattle.multi_s01.specs.Stream.{lowest}

pub lowest-found : (n : ℕ) (z : ℕ → ℕ) (i : ℕ) → i < n → ((k : ℕ) → k < i → z k ≡ 0) → (z i ≡ 0 → ⊥) → lowest n z ≡ i
unfolding lowest
lowest-found zero z i q h k = absurd (not-suc-le-zero q)
lowest-found (suc n) z zero q h k = ap (λ b. pick b (suc (lowest n (λ i. z (suc i)))) 0) (ne_eqb (z 0) 0 k)
lowest-found (suc n) z (suc i) q h k =
    ap (λ b. pick b (suc (lowest n (λ i. z (suc i)))) 0) (eq-eqb (z 0) 0 (h 0 (omega arith)))
    ∙ ap suc (lowest-found n (λ i. z (suc i)) i (le_of_suc-le-suc q) (λ j p. h (suc j) (omega arith)) k)

pub lowest-none : (n : ℕ) (z : ℕ → ℕ) → ((k : ℕ) → k < n → z k ≡ 0) → lowest n z ≡ n
unfolding lowest
lowest-none zero z h = refl
lowest-none (suc n) z h =
    ap (λ b. pick b (suc (lowest n (λ i. z (suc i)))) 0) (eq-eqb (z 0) 0 (h 0 (omega arith)))
    ∙ ap suc (lowest-none n (λ i. z (suc i)) (λ j p. h (suc j) (omega arith)))

pub lowest-most : (n : ℕ) (z : ℕ → ℕ) → lowest n z ≤ n
unfolding lowest
lowest-most zero z = omega arith
lowest-most (suc n) z = by (eqb (z 0) 0) (lowest-most n (λ i. z (suc i)))
  where
    by : (b : Bool) → lowest n (λ i. z (suc i)) ≤ n → pick b (suc (lowest n (λ i. z (suc i)))) 0 ≤ suc n
    by true h = omega arith
    by false h = omega arith

-- the block found is not 0, and those before it are
pub lowest-some : (n : ℕ) (z : ℕ → ℕ) → lowest n z < n → z (lowest n z) ≡ 0 → ⊥
unfolding lowest
lowest-some zero z q = absurd (not-suc-le-zero q)
lowest-some (suc n) z q = by (λ h. lowest-some n (λ i. z (suc i)) h) (eqb (z 0) 0) refl q
  where
    by : (lowest n (λ i. z (suc i)) < n → z (suc (lowest n (λ i. z (suc i)))) ≡ 0 → ⊥) → (b : Bool) → eqb (z 0) 0 ≡ b → pick b (suc (lowest n (λ i. z (suc i)))) 0 < suc n → z (pick b (suc (lowest n (λ i. z (suc i)))) 0) ≡ 0 → ⊥
    by rest true e h = rest (le_of_suc-le-suc h)
    by rest false e h = eqb-false (z 0) 0 e

pub lowest-blank : (n : ℕ) (z : ℕ → ℕ) (k : ℕ) → k < lowest n z → z k ≡ 0
unfolding lowest
lowest-blank zero z k q = absurd (not-suc-le-zero q)
lowest-blank (suc n) z k q = by (λ j h. lowest-blank n (λ i. z (suc i)) j h) (eqb (z 0) 0) refl k q
  where
    by : ((j : ℕ) → j < lowest n (λ i. z (suc i)) → z (suc j) ≡ 0) → (b : Bool) → eqb (z 0) 0 ≡ b → (k : ℕ) → k < pick b (suc (lowest n (λ i. z (suc i)))) 0 → z k ≡ 0
    by rest true e zero h = eqb-true (z 0) 0 e
    by rest true e (suc k) h = rest k (le_of_suc-le-suc h)
    by rest false e k h = absurd (not-suc-le-zero h)
