-- A number of a line that was taken up or replaced is never held of it again, since every park from the line gets a number above all before it; and no park and no resume leaves a number above its
-- line's count.
-- Assumes nothing.
use Prim.Native.Nat.{ℕ, zero, suc, ◌+◌, ◌^◌, ◌<◌, ◌≤◌}
use mathlib.Core.Path.{◌≡◌, refl, ap, sym, subst, ◌∙◌}
use mathlib.Core.List.{List, [], ◌∷◌}
use mathlib.Core.Bool.{Bool, true, false, not}
use native.Mathlib.Omega.{arith}
use native.Mathlib.Decide.{dec_lt, ℕ_discrete}
use lib.Dec.{eqb, leb}
use lib.ListN.{length, get_or, set, replicate, length-set, get_or-eq_default}
use lib.Seq.{get_or-set_same, get_or-set_other, set_out}
use borrow.Author.Tests.{eqb-true, eqb-false, eq-eqb, ne_eqb, le-leb, leb-true, leb-false, not-true}
use Rattle.words.specs.Tests.{both}
use Rattle.words.proofs.Tests.{both_left, both_right, both_true}
use Rattle.card_sizes.specs.Sizes.{line_count}
use Rattle.machine.specs.Parks.{Parks, fresh_parks, count_for, held_for, last_park, no_more, number_now, parked, holds, taken, none_above, parks_ok}

-- ---- where a list is set

-- what holds of the new number and held of the old ones
set-either : (l : List ℕ) (j y i : ℕ) (P : ℕ → Type 0) → (i ≡ j → P y) → P (get_or l i 0) → P (get_or (set l j y) i 0)
set-either l j y i P f g = by (ℕ_discrete i j)
  where
    here : i ≡ j → Dec (j < length l) → P (get_or (set l j y) i 0)
    here e (yes q) = subst P (sym (ap (λ (k : ℕ). get_or (set l j y) k 0) e ∙ get_or-set_same l j y 0 q)) (f e)
    here e (no q) = subst P (sym (ap (λ (x : List ℕ). get_or x i 0) (set_out l j y (omega (arith, q))))) g

    by : Dec (i ≡ j) → P (get_or (set l j y) i 0)
    by (yes e) = here e (dec_lt j (length l))
    by (no n) = subst P (sym (get_or-set_other l j i y 0 n)) g

-- ---- a number that was given out

-- number k was given to a park from line i
pub record Given (p : Parks) (i k : ℕ) : Type 0 where
  pub most : k ≤ count_for p i
  pub some : k ≡ 0 → ⊥

-- and is held of it no more
pub record Spent (p : Parks) (i k : ℕ) : Type 0 where
  pub given : Given p i k
  pub gone : held_for p i ≡ k → ⊥

pub spent-refused : (p : Parks) (i k : ℕ) → Spent p i k → holds p i k ≡ false
unfolding holds
spent-refused p i k s = go (not (eqb k 0)) (ne_eqb (held_for p i) k s.gone)
  where
    go : (b : Bool) → eqb (held_for p i) k ≡ false → both b (eqb (held_for p i) k) ≡ false
    go true e = e
    go false e = refl

pub holds-told : (p : Parks) (i k : ℕ) → holds p i k ≡ true → held_for p i ≡ k
unfolding holds
holds-told p i k h = eqb-true (held_for p i) k (both_right (not (eqb k 0)) _ h)

-- a number that is held is taken
pub held-holds : (p : Parks) (i k : ℕ) → (k ≡ 0 → ⊥) → held_for p i ≡ k → holds p i k ≡ true
unfolding holds
held-holds p i k z e = both_true (ap not (ne_eqb k 0 z)) (eq-eqb (held_for p i) k e)

-- ---- a park from line j

-- its number is above those before it
number-new : (p : Parks) (j i k : ℕ) → Given p i k → i ≡ j → k ≤ count_for p j
number-new p j i k g e = subst (λ (x : ℕ). k ≤ count_for p x) e g.most

pub parked-given : (p : Parks) (j i k : ℕ) → Given p i k → Given (parked p j) i k
unfolding parked number_now
parked-given p j i k g =
    record { most = set-either p.counts j (suc (count_for p j)) i (λ x. k ≤ x) (λ e. let z = number-new p j i k g e in omega (arith, z)) g.most; some = g.some }

pub parked-keeps : (p : Parks) (j i k : ℕ) → Spent p i k → Spent (parked p j) i k
unfolding parked number_now
parked-keeps p j i k s =
    record {
      given = parked-given p j i k s.given;
      gone = set-either p.held j (suc (count_for p j)) i (λ x. x ≡ k → ⊥) (λ e q. let z = number-new p j i k s.given e in omega (arith, z, q)) s.gone;
    }

-- a later park from its line spends a number
pub replaced-spent : (p : Parks) (i k : ℕ) → i < length p.held → Given p i k → Spent (parked p i) i k
unfolding parked number_now
replaced-spent p i k q g =
    let m = g.most in
    record { given = parked-given p i i k g; gone = λ e. let n = sym (get_or-set_same p.held i (suc (count_for p i)) 0 q) ∙ e in omega (arith, m, n) }

-- the number that a park gives is held of its line
pub now-given : (p : Parks) (i : ℕ) → i < length p.counts → Given (parked p i) i (number_now p i)
unfolding parked number_now
now-given p i q = record { most = let e = get_or-set_same p.counts i (suc (count_for p i)) 0 q in omega (arith, e); some = λ e. omega (arith, e) }

pub now-held : (p : Parks) (i : ℕ) → i < length p.held → held_for (parked p i) i ≡ number_now p i
unfolding parked number_now
now-held p i q = get_or-set_same p.held i (suc (count_for p i)) 0 q

pub now-counted : (p : Parks) (i : ℕ) → i < length p.counts → count_for (parked p i) i ≡ count_for p i + 1
unfolding parked number_now
now-counted p i q = get_or-set_same p.counts i (suc (count_for p i)) 0 q ∙ omega arith

-- a park from another line leaves what is held, and the count
pub parked-other : (p : Parks) (j i : ℕ) → (i ≡ j → ⊥) → held_for (parked p j) i ≡ held_for p i
unfolding parked
parked-other p j i ne = get_or-set_other p.held j i (number_now p j) 0 ne

pub counted-other : (p : Parks) (j i : ℕ) → (i ≡ j → ⊥) → count_for (parked p j) i ≡ count_for p i
unfolding parked
counted-other p j i ne = get_or-set_other p.counts j i (number_now p j) 0 ne

-- ---- a resume that takes up the number of line j

pub taken-given : (p : Parks) (j i k : ℕ) → Given p i k → Given (taken p j) i k
unfolding taken
taken-given p j i k g = record { most = g.most; some = g.some }

pub taken-keeps : (p : Parks) (j i k : ℕ) → Spent p i k → Spent (taken p j) i k
unfolding taken
taken-keeps p j i k s =
    record { given = taken-given p j i k s.given; gone = set-either p.held j 0 i (λ x. x ≡ k → ⊥) (λ _ e. s.given.some (sym e)) s.gone }

pub taken-count : (p : Parks) (j i : ℕ) → count_for (taken p j) i ≡ count_for p i
unfolding taken
taken-count p j i = refl

-- and leaves that of another line
pub taken-other : (p : Parks) (j i : ℕ) → (i ≡ j → ⊥) → held_for (taken p j) i ≡ held_for p i
unfolding taken
taken-other p j i ne = get_or-set_other p.held j i 0 0 ne

-- ---- 255 is not given

-- there are as many counts and held numbers as lines
pub record Long (p : Parks) : Type 0 where
  pub counts : length p.counts ≡ line_count
  pub held : length p.held ≡ line_count

pub parked-long : (p : Parks) (i : ℕ) → Long p → Long (parked p i)
unfolding parked
parked-long p i l = record { counts = length-set p.counts i (number_now p i) ∙ l.counts; held = length-set p.held i (number_now p i) ∙ l.held }

pub taken-long : (p : Parks) (i : ℕ) → Long p → Long (taken p i)
unfolding taken
taken-long p i l = record { counts = l.counts; held = length-set p.held i 0 ∙ l.held }

-- the test, line by line
above-told : (k : ℕ) (p : Parks) → none_above k p ≡ true → (i : ℕ) → i < k → held_for p i ≤ count_for p i
above-told zero p h i q = absurd (omega (arith, q))
above-told (suc k) p h i q = by (ℕ_discrete i k) (above-told k p (both_left (none_above k p) _ h) i)
  where
    by : Dec (i ≡ k) → (i < k → held_for p i ≤ count_for p i) → held_for p i ≤ count_for p i
    by (yes e) f = subst (λ (x : ℕ). held_for p x ≤ count_for p x) (sym e) (leb-true (held_for p k) (count_for p k) (both_right (none_above k p) _ h))
    by (no n) f = f (omega (arith, q, n))

pub above-all : (k : ℕ) (p : Parks) → ((i : ℕ) → held_for p i ≤ count_for p i) → none_above k p ≡ true
above-all zero p f = refl
above-all (suc k) p f = both_true (above-all k p f) (le-leb (held_for p k) (count_for p k) (f k))

pub above-bad : (k : ℕ) (p : Parks) (i : ℕ) → i < k → count_for p i < held_for p i → none_above k p ≡ false
above-bad k p i q h = by (none_above k p) refl
  where
    by : (b : Bool) → none_above k p ≡ b → b ≡ false
    by true e = let z = above-told k p e i q in absurd (omega (arith, h, z))
    by false e = refl

pub above_more : (k : ℕ) (p : Parks) → none_above k p ≡ true → held_for p k ≤ count_for p k → none_above (suc k) p ≡ true
above_more k p e h = both_true e (le-leb (held_for p k) (count_for p k) h)

-- beyond the lines nothing is held
pub ok-below : (p : Parks) → Long p → parks_ok p ≡ true → (i : ℕ) → held_for p i ≤ count_for p i
unfolding parks_ok
ok-below p l h i = by (dec_lt i line_count)
  where
    by : Dec (i < line_count) → held_for p i ≤ count_for p i
    by (yes q) = above-told line_count p h i q
    by (no q) = let n = l.held in let z = get_or-eq_default p.held 0 (let r : length p.held ≤ i = omega (arith, n, q) in r) in omega (arith, z)

pub parked-ok : (p : Parks) (i : ℕ) → Long p → parks_ok p ≡ true → parks_ok (parked p i) ≡ true
unfolding parks_ok parked
parked-ok p j l h = above-all line_count (parked p j) (λ i. both-set p.counts p.held (number_now p j) (l.counts ∙ sym l.held) (ok-below p l h) j i)
  where
    both-set : (c h : List ℕ) (y : ℕ) → length c ≡ length h → ((i : ℕ) → get_or h i 0 ≤ get_or c i 0) → (j i : ℕ) → get_or (set h j y) i 0 ≤ get_or (set c j y) i 0
    both-set [] [] y e b j i = omega arith
    both-set [] (x ∷ h) y e b j i = absurd (omega (arith, e))
    both-set (x ∷ c) [] y e b j i = absurd (omega (arith, e))
    both-set (x ∷ c) (z ∷ h) y e b zero zero = omega arith
    both-set (x ∷ c) (z ∷ h) y e b zero (suc i) = b (suc i)
    both-set (x ∷ c) (z ∷ h) y e b (suc j) zero = b zero
    both-set (x ∷ c) (z ∷ h) y e b (suc j) (suc i) = both-set c h y (let q : length c ≡ length h = omega (arith, e) in q) (λ k. b (suc k)) j i

pub taken-ok : (p : Parks) (i : ℕ) → Long p → parks_ok p ≡ true → parks_ok (taken p i) ≡ true
unfolding parks_ok taken
taken-ok p j l h = above-all line_count (taken p j) (λ i. set-either p.held j 0 i (λ x. x ≤ count_for p i) (λ _. omega arith) (ok-below p l h i))

-- one that is taken up is spent
pub taken-spent : (p : Parks) (i k : ℕ) → Long p → parks_ok p ≡ true → holds p i k ≡ true → Spent (taken p i) i k
unfolding taken holds
taken-spent p i k l ok h =
    let e = eqb-true (held_for p i) k (both_right (not (eqb k 0)) _ h) in
    let b = ok-below p l ok i in
    record { given = record { most = omega (arith, b, e); some = some }; gone = by (dec_lt i (length p.held)) e }
  where
    some : k ≡ 0 → ⊥
    some = eqb-false k 0 (not-true (eqb k 0) (both_left (not (eqb k 0)) _ h))

    by : Dec (i < length p.held) → held_for p i ≡ k → get_or (set p.held i 0) i 0 ≡ k → ⊥
    by (yes q) e g = some (sym g ∙ get_or-set_same p.held i 0 0 q)
    by (no q) e g = some (sym e ∙ get_or-eq_default p.held 0 (omega (arith, q)))

-- ---- a fresh card

pub fresh_ok : parks_ok fresh_parks ≡ true
unfolding parks_ok
fresh_ok = refl

pub fresh-long : Long fresh_parks
fresh-long = record { counts = refl; held = refl }

pub fresh-count : (i : ℕ) → count_for fresh_parks i ≡ 0
fresh-count i = none line_count i
  where
    none : (k i : ℕ) → get_or {A = ℕ} (replicate k 0) i 0 ≡ 0
    none zero i = refl
    none (suc k) zero = refl
    none (suc k) (suc i) = none k i

-- ---- the number that a park writes

-- a park that is left to be made has a number of 32 bits
pub number_word : (p : Parks) (i : ℕ) → no_more p i ≡ false → number_now p i < 2 ^ 32
unfolding no_more number_now
number_word p i h = let b = leb-false last_park (count_for p i) h in omega (arith, b)
