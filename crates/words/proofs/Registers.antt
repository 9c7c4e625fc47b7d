-- Registers, cell by cell. A list of known length is the list of its elements, so a move is a literal of elements; a loop that stores from the front
-- leaves a table of what it stored before what was there; one more turn of an iteration is one more step.
-- Assumes nothing.
use mathlib.Core.Path.{◌≡◌, refl, sym, ap, ap₂, ◌∙◌}
use mathlib.Core.List.{List, [], ◌∷◌, ◌++◌}
use Prim.Native.Nat.{ℕ, zero, suc, ◌+◌, ◌<◌}
use native.Mathlib.Nat.{suc_inj, suc-ne-zero, le_of_suc-le-suc, not-suc-le-zero}
use native.Mathlib.Numerals.{add-one}
use lib.ListN.{length, get_or, drop, set}
use Rattle.words.specs.Lists.{tab, shifted, iter}

pub listed : (n : ℕ) (a : List ℕ) → length a ≡ n → a ≡ tab n (λ k. get_or a k 0)
listed zero [] e = refl
listed zero (x ∷ a) e = absurd (suc-ne-zero (length a) e)
listed (suc n) [] e = absurd (suc-ne-zero n (sym e))
listed (suc n) (x ∷ a) e = ap (λ (l : List ℕ). x ∷ l) (listed n a (suc_inj e))

-- a register of n + 1 cells, moved
pub shifted-cells : (n : ℕ) (a : List ℕ) (x : ℕ) → length a ≡ suc n → shifted a x ≡ tab n (λ k. get_or a (suc k) 0) ++ (x ∷ [])
unfolding shifted
shifted-cells n a x e = ap (λ (l : List ℕ). drop 1 l ++ (x ∷ [])) (listed (suc n) a e)

-- a literal, element by element
pub cons : {x y : ℕ} {l m : List ℕ} → x ≡ y → l ≡ m → x ∷ l ≡ y ∷ m
cons p q = ap₂ ◌∷◌ p q

-- one store more
pub fill : (n : ℕ) (f : ℕ → ℕ) (z : List ℕ) → n < length z → set (tab n f ++ drop n z) n (f n) ≡ tab (n + 1) f ++ drop (n + 1) z
fill n f z h = go n f z h ∙ ap (λ (k : ℕ). tab k f ++ drop k z) (sym (add-one n))
  where
    go : (n : ℕ) (f : ℕ → ℕ) (z : List ℕ) → n < length z → set (tab n f ++ drop n z) n (f n) ≡ tab (suc n) f ++ drop (suc n) z
    go n f [] h = absurd (not-suc-le-zero h)
    go zero f (x ∷ z) h = refl
    go (suc n) f (x ∷ z) h = ap (λ (l : List ℕ). f zero ∷ l) (go n (λ k. f (suc k)) z (le_of_suc-le-suc h))

-- one turn more
pub iter-more : {A : Type 0} (n : ℕ) (f : A → A) (x : A) → iter (n + 1) f x ≡ f (iter n f x)
unfolding iter
iter-more n f x = rw add-one
