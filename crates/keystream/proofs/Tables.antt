-- Tables by a rule: how long they are, when two agree, and what stands at a place.
-- Assumes nothing.
use Prim.Native.Nat.{ℕ, zero, suc, ◌<◌}
use mathlib.Core.Path.{◌≡◌, refl, ap, ◌∙◌}
use mathlib.Core.List.{List, ◌∷◌}
use lib.ListN.{length, get_or}
use native.Mathlib.Omega.{arith}
use native.Mathlib.Nat.{le_of_suc-le-suc, not-suc-le-zero}
use Rattle.words.specs.Lists.{tab}

pub tab-length : (n : ℕ) (f : ℕ → ℕ) → length (tab n f) ≡ n
tab-length zero f = refl
tab-length (suc n) f = ap suc (tab-length n (λ i. f (suc i)))

pub tab-agree : (n : ℕ) (f h : ℕ → ℕ) → ((i : ℕ) → i < n → f i ≡ h i) → tab n f ≡ tab n h
tab-agree zero f h e = refl
tab-agree (suc n) f h e =
    ap (λ (x : ℕ). x ∷ tab n (λ i. f (suc i))) (e 0 (omega arith))
    ∙ ap (λ (l : List ℕ). h 0 ∷ l) (tab-agree n (λ i. f (suc i)) (λ i. h (suc i)) (λ i q. e (suc i) (omega arith)))

pub get_d-tab : (n : ℕ) (f : ℕ → ℕ) (i : ℕ) → i < n → get_or (tab n f) i 0 ≡ f i
get_d-tab zero f i h = absurd (not-suc-le-zero h)
get_d-tab (suc n) f zero h = refl
get_d-tab (suc n) f (suc i) h = get_d-tab n (λ k. f (suc k)) i (le_of_suc-le-suc h)
