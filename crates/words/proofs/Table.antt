-- A table's rule at each of its entries, from one test that is computed over the whole table: the test goes through the entries one after the other, so
-- where it passes it passes at each.
-- Assumes nothing.
use mathlib.Core.Path.{◌≡◌, ◌∙◌, subst, sym}
use mathlib.Core.Bool.{Bool, true, false}
use mathlib.Core.List.{List, [], ◌∷◌}
use Prim.Native.Nat.{ℕ, zero, suc, ◌+◌, ◌<◌}
use native.Mathlib.Nat.{add-zero, zero-add, add-suc, suc-add, le_of_suc-le-suc, not-suc-le-zero}
use lib.Dec.{T, eqb, eqb→eq, ltb, ltb→lt}
use lib.ListN.{length, get_or}
use Rattle.words.specs.Lists.{All, none, more}
use Rattle.words.specs.Tests.{both}

pub both_left : (a b : Bool) → T (both a b) → T a
both_left true b t = tt
both_left false b t = t

pub both_right : (a b : Bool) → T (both a b) → T b
both_right true b t = t
both_right false b t = absurd t

-- the test f passes at each entry and its index, counted from i
abbrev pub every : (ℕ → ℕ → Bool) → ℕ → List ℕ → Bool
every f i [] = true
every f i (x ∷ l) = both (f i x) (every f (suc i) l)

from : (f : ℕ → ℕ → Bool) (l : List ℕ) (i : ℕ) → T (every f i l) → (k : ℕ) → k < length l → T (f (i + k) (get_or l k 0))
from f [] i t k h = absurd (not-suc-le-zero h)
from f (x ∷ l) i t zero h = subst (λ (m : ℕ). T (f m x)) (sym (add-zero i)) (both_left (f i x) (every f (suc i) l) t)
from f (x ∷ l) i t (suc k) h =
    subst (λ (m : ℕ). T (f m (get_or l k 0))) (suc-add i k ∙ sym (add-suc i k))
    (from f l (suc i) (both_right (f i x) (every f (suc i) l) t) k (le_of_suc-le-suc h))

-- g of entry k is f k
abbrev pub is : (ℕ → ℕ) → (ℕ → ℕ) → ℕ → ℕ → Bool
is g f k x = eqb (g x) (f k)

pub entries_by : (g f : ℕ → ℕ) (l : List ℕ) → T (every (is g f) 0 l) → (k : ℕ) → k < length l → g (get_or l k 0) ≡ f k
entries_by g f l t k h =
    eqb→eq (g (get_or l k 0)) (f k) (subst (λ (m : ℕ). T (is g f m (get_or l k 0))) (zero-add k) (from (is g f) l 0 t k h))

-- entry k is f k
pub entries : (f : ℕ → ℕ) (l : List ℕ) → T (every (is (λ x. x) f) 0 l) → (k : ℕ) → k < length l → get_or l k 0 ≡ f k
entries f l t k h = entries_by (λ x. x) f l t k h

-- what a test says of a number holds of each entry
module _ (P : ℕ → Type 0) (t : ℕ → Bool) (says : (x : ℕ) → T (t x) → P x) where
  go : (i : ℕ) (l : List ℕ) → T (every (λ k x. t x) i l) → All P l
  go i [] h = none
  go i (x ∷ l) h =
      more (says x (both_left (t x) (every (λ k y. t y) (suc i) l) h)) (go (suc i) l (both_right (t x) (every (λ k y. t y) (suc i) l) h))

  pub all_pass : (l : List ℕ) → T (every (λ k x. t x) 0 l) → All P l
  all_pass l h = go 0 l h

-- each entry is below n
pub all_under : (n : ℕ) (l : List ℕ) → T (every (λ k x. ltb x n) 0 l) → All (λ x. x < n) l
all_under n l h = all_pass (λ x. x < n) (λ x. ltb x n) (λ x. ltb→lt x n) l h
