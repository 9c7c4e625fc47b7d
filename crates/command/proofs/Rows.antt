-- A list of refusals as a whole: a claim about what it gives follows where it holds of each refusal, and of what is left where no row is given.
-- Assumes nothing.
use mathlib.Core.Path.{◌≡◌, refl, ap, sym, ◌∙◌}
use mathlib.Core.Bool.{Bool, true, false}
use mathlib.Core.List.{List, [], ◌∷◌}
use Prim.Native.Nat.{ℕ, ◌≤◌}
use native.Mathlib.Omega.{arith}
use lib.Dec.{T, eqb, leb, leb→le}
use borrow.Author.Tests.{ne_eqb}
use Rattle.words.specs.Tests.{both, pick}
use Rattle.words.proofs.Table.{both_left, both_right}
use Rattle.command.specs.Rows.{RowOf, Row, unless, code_of, last_number, either}

-- no row is given
abbrev pub AllPassed : {R : Type 0} → List (RowOf R) → Type 0
AllPassed [] = Unit {0}
AllPassed (r ∷ rs) = (r.given ≡ false) × AllPassed rs

-- whether the first row of number k is given
abbrev pub condition_of : ℕ → List Row → Bool
condition_of k [] = false
condition_of k (r ∷ rs) = pick (eqb r.number k) r.given (condition_of k rs)

choose : (b : Bool) {x y : Bool} → x ≡ false → y ≡ false → pick b x y ≡ false
choose true h k = h
choose false h k = k

pub none-given : (k : ℕ) (rs : List Row) → AllPassed rs → condition_of k rs ≡ false
none-given k [] p = refl
none-given k (r ∷ rs) p = choose (eqb r.number k) p.0 (none-given k rs p.1)

-- a test that each number passes
abbrev pub every_number : {R : Type 0} → (R → Bool) → List (RowOf R) → Bool
every_number t [] = true
every_number t (r ∷ rs) = both (t r.number) (every_number t rs)

module _ {R A : Type 0} (P : A → Type 0) (refuse_if : Bool → R → A → A) (t : R → Bool)
    (row : (b : Bool) (k : R) (e : A) → T (t k) → (b ≡ false → P e) → P (refuse_if b k e)) where
  pub by_rows : (rs : List (RowOf R)) (e : A) → T (every_number t rs) → (AllPassed rs → P e) → P (unless refuse_if rs e)
  by_rows [] e n h = h tt
  by_rows (r ∷ rs) e n h =
      row r.given r.number _ (both_left (t r.number) (every_number t rs) n)
      (λ g. by_rows rs e (both_right (t r.number) (every_number t rs) n) (λ p. h (g, p)))

-- ---- the numbers of document 01's list but 255

abbrev pub is_number : ℕ → Bool
is_number k = both (leb 1 k) (leb k last_number)

pub above : (k : ℕ) → T (is_number k) → 1 ≤ k
above k z = leb→le 1 k (both_left (leb 1 k) (leb k last_number) z)

pub below : (k : ℕ) → T (is_number k) → k ≤ last_number
below k z = leb→le k last_number (both_right (leb 1 k) (leb k last_number) z)

pub not-zero : (k : ℕ) → T (is_number k) → eqb k 0 ≡ false
not-zero k z = let h = above k z in ne_eqb k 0 (λ e. let q : k ≡ 0 = e in omega arith)

-- ---- a row with two conditions, of which neither holds

pub either_left : (b c : Bool) → either b c ≡ false → b ≡ false
either_left true c h = h
either_left false c h = refl

pub either-right : (b c : Bool) → either b c ≡ false → c ≡ false
either-right true c h = absurd (let z : ◌≡◌ {A = ℕ} 0 1 = cc in omega arith)
either-right false c h = h

-- ---- the number of a list of refusals

pub code-yes : (r : Row) (rs : List Row) → r.given ≡ true → code_of (r ∷ rs) ≡ r.number
code-yes r rs h = ap (λ (b : Bool). pick b r.number (code_of rs)) h

pub code-no : (r : Row) (rs : List Row) → r.given ≡ false → code_of (r ∷ rs) ≡ code_of rs
code-no r rs h = ap (λ (b : Bool). pick b r.number (code_of rs)) h

-- where it is 0 no row is given, since no row has the number 0
pub code-passed : (rs : List Row) → T (every_number (leb 1) rs) → code_of rs ≡ 0 → AllPassed rs
code-passed [] n e = tt
code-passed (r ∷ rs) n e = by r.given refl (λ q. code-passed rs (both_right (leb 1 r.number) (every_number (leb 1) rs) n) q)
  where
    by : (b : Bool) → r.given ≡ b → (code_of rs ≡ 0 → AllPassed rs) → (r.given ≡ false) × AllPassed rs
    by true h f =
        let z : r.number ≡ 0 = sym (code-yes r rs h) ∙ e in
        absurd (let p = leb→le 1 r.number (both_left (leb 1 r.number) (every_number (leb 1) rs) n) in omega (arith, z, p))
    by false h f = (h, f (sym (code-no r rs h) ∙ e))
