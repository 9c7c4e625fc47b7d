-- Parts of one length, one behind the other: a byte of one is read and stored at its place in the whole.
-- Assumes nothing.
use mathlib.Core.Path.{◌≡◌, refl, ap, ap₂, sym, ◌∙◌}
use mathlib.Core.Bool.{Bool, true, false}
use mathlib.Core.List.{List, [], ◌∷◌, ◌++◌, append_assoc}
use Prim.Native.Nat.{ℕ, zero, suc, ◌+◌, ◌*◌, ◌<◌, ◌≤◌}
use native.Mathlib.Nat.{not-suc-le-zero, le_of_suc-le-suc, suc-mul}
use native.Mathlib.Omega.{arith}
use borrow.Author.Tests.{eqb-true, eqb-false}
use lib.Dec.{eqb}
use lib.ListN.{length, get_or, take, drop, set, length-set, length-drop, take-append-drop, get_or-append}
use lib.Seq.{length-take-le, get_or-append-add, set-append_left, drop-drop}
use Rattle.card_mix.specs.Parts.{join_tab, parts_in}

pub join-agree : (m : ℕ) (f g : ℕ → List ℕ) → ((i : ℕ) → i < m → f i ≡ g i) → join_tab m f ≡ join_tab m g
join-agree zero f g h = refl
join-agree (suc m) f g h = ap₂ ◌++◌ (h zero (omega arith)) (join-agree m (λ i. f (suc i)) (λ i. g (suc i)) (λ i q. h (suc i) (omega arith)))

-- ---- the parts of a list

pub parts-count : (m n : ℕ) (l : List ℕ) → length (parts_in m n l) ≡ m
parts-count zero n l = refl
parts-count (suc m) n l = ap suc (parts-count m n (drop n l))

pub part-long : (m n : ℕ) (l : List ℕ) (k : ℕ) → m * n ≤ length l → k < m → length (get_or (parts_in m n l) k []) ≡ n
part-long zero n l k h q = absurd (not-suc-le-zero q)
part-long (suc m) n l zero h q = length-take-le n l (omega (arith, suc-mul m n))
part-long (suc m) n l (suc k) h q = part-long m n (drop n l) k (omega (arith, suc-mul m n, length-drop n l)) (le_of_suc-le-suc q)

pub join-parts : (m n : ℕ) (l : List ℕ) → join_tab m (λ k. get_or (parts_in m n l) k []) ++ drop (m * n) l ≡ l
join-parts zero n l = ap (λ (k : ℕ). drop k l) (let e : 0 * n ≡ 0 = omega arith in e)
join-parts (suc m) n l =
    append_assoc (take n l) (join_tab m (λ k. get_or (parts_in m n (drop n l)) k [])) (drop (suc m * n) l)
    ∙ ap (λ (x : List ℕ). take n l ++ (join_tab m (λ k. get_or (parts_in m n (drop n l)) k []) ++ x))
    (ap (λ (k : ℕ). drop k l) (let e : suc m * n ≡ n + m * n = omega (arith, suc-mul m n) in e) ∙ sym (drop-drop (m * n) n l))
    ∙ ap (λ (x : List ℕ). take n l ++ x) (join-parts m n (drop n l))
    ∙ take-append-drop n l

-- ---- one part put in the place of another

abbrev pub put_part : ℕ → List ℕ → (ℕ → List ℕ) → ℕ → List ℕ
put_part zero x f zero = x
put_part zero x f (suc i) = f (suc i)
put_part (suc k) x f zero = f zero
put_part (suc k) x f (suc i) = put_part k x (λ i. f (suc i)) i

pub put_same : (k : ℕ) (x : List ℕ) (f : ℕ → List ℕ) → put_part k x f k ≡ x
put_same zero x f = refl
put_same (suc k) x f = put_same k x (λ i. f (suc i))

pub put_other : (k : ℕ) (x : List ℕ) (f : ℕ → List ℕ) (i : ℕ) → (i ≡ k → ⊥) → put_part k x f i ≡ f i
put_other zero x f zero h = absurd (h refl)
put_other zero x f (suc i) h = refl
put_other (suc k) x f zero h = refl
put_other (suc k) x f (suc i) h = put_other k x (λ i. f (suc i)) i (λ e. h (ap suc e))

set-append-add : (xs ys : List ℕ) (i v : ℕ) → set (xs ++ ys) (length xs + i) v ≡ xs ++ set ys i v
set-append-add [] ys i v = ap (λ (k : ℕ). set ys k v) (let e : 0 + i ≡ i = omega arith in e)
set-append-add (x ∷ xs) ys i v =
    ap (λ (k : ℕ). set (x ∷ (xs ++ ys)) k v) (let e : suc (length xs) + i ≡ suc (length xs + i) = omega arith in e) ∙ ap (◌∷◌ x) (set-append-add xs ys i v)

-- ---- a byte of a part

module _ (n : ℕ) (rest : List ℕ) where
  pub join-get : (m : ℕ) (f : ℕ → List ℕ) → ((i : ℕ) → i < m → length (f i) ≡ n) → (k r : ℕ) → k < m → r < n → get_or (join_tab m f ++ rest) (k * n + r) 0 ≡ get_or (f k) r 0
  join-get zero f h k r q w = absurd (not-suc-le-zero q)
  join-get (suc m) f h zero r q w =
      ap₂ (λ (x : List ℕ) (i : ℕ). get_or x i 0) (append_assoc (f zero) (join_tab m (λ i. f (suc i))) rest) (let e : 0 * n + r ≡ r = omega arith in e)
      ∙ get_or-append (f zero) (join_tab m (λ i. f (suc i)) ++ rest) 0 r (let e = h zero q in omega (arith, e))
  join-get (suc m) f h (suc k) r q w =
      ap₂ (λ (x : List ℕ) (i : ℕ). get_or x i 0) (append_assoc (f zero) (join_tab m (λ i. f (suc i))) rest)
      (let e = h zero (omega arith) in let z : suc k * n + r ≡ length (f zero) + (k * n + r) = omega (arith, e, suc-mul k n) in z)
      ∙ get_or-append-add (f zero) (join_tab m (λ i. f (suc i)) ++ rest) (k * n + r) 0
      ∙ join-get m (λ i. f (suc i)) (λ i p. h (suc i) (omega arith)) k r (le_of_suc-le-suc q) w

  pub join-set : (m : ℕ) (f : ℕ → List ℕ) → ((i : ℕ) → i < m → length (f i) ≡ n) → (k r v : ℕ) → k < m → r < n →
      set (join_tab m f ++ rest) (k * n + r) v ≡ join_tab m (put_part k (set (f k) r v) f) ++ rest
  join-set zero f h k r v q w = absurd (not-suc-le-zero q)
  join-set (suc m) f h zero r v q w =
      ap₂ (λ (x : List ℕ) (i : ℕ). set x i v) (append_assoc (f zero) (join_tab m (λ i. f (suc i))) rest) (let e : 0 * n + r ≡ r = omega arith in e)
      ∙ set-append_left (f zero) (join_tab m (λ i. f (suc i)) ++ rest) r v (let e = h zero q in omega (arith, e))
      ∙ sym (append_assoc (set (f zero) r v) (join_tab m (λ i. f (suc i))) rest)
  join-set (suc m) f h (suc k) r v q w =
      ap₂ (λ (x : List ℕ) (i : ℕ). set x i v) (append_assoc (f zero) (join_tab m (λ i. f (suc i))) rest)
      (let e = h zero (omega arith) in let z : suc k * n + r ≡ length (f zero) + (k * n + r) = omega (arith, e, suc-mul k n) in z)
      ∙ set-append-add (f zero) (join_tab m (λ i. f (suc i)) ++ rest) (k * n + r) v
      ∙ ap (λ (x : List ℕ). f zero ++ x) (join-set m (λ i. f (suc i)) (λ i p. h (suc i) (omega arith)) k r v (le_of_suc-le-suc q) w)
      ∙ sym (append_assoc (f zero) (join_tab m (put_part k (set (f (suc k)) r v) (λ i. f (suc i)))) rest)

  put-long : (m : ℕ) (f : ℕ → List ℕ) → ((i : ℕ) → i < m → length (f i) ≡ n) → (k : ℕ) (x : List ℕ) → length x ≡ n → (i : ℕ) → i < m → length (put_part k x f i) ≡ n
  put-long m f h k x e i q = by (eqb i k) refl
    where
      by : (b : Bool) → eqb i k ≡ b → length (put_part k x f i) ≡ n
      by true z = ap (λ (j : ℕ). length (put_part k x f j)) (eqb-true i k z) ∙ ap length (put_same k x f) ∙ e
      by false z = ap length (put_other k x f i (eqb-false i k z)) ∙ h i q

  -- two bytes, one after the other
  pub join-two : (m : ℕ) (f g : ℕ → List ℕ) → ((i : ℕ) → i < m → length (f i) ≡ n) → (k r v w : ℕ) → k < m → r + 1 < n →
      set (set (f k) r v) (r + 1) w ≡ g k → ((i : ℕ) → i < m → (i ≡ k → ⊥) → f i ≡ g i) →
      set (set (join_tab m f ++ rest) (k * n + r) v) (k * n + r + 1) w ≡ join_tab m g ++ rest
  join-two m f g h k r v w q b e o =
      let x = set (f k) r v in
      let lx : length x ≡ n = length-set (f k) r v ∙ h k q in
      let f1 = put_part k x f in
      ap (λ (y : List ℕ). set y (k * n + r + 1) w) (join-set m f h k r v q (omega arith))
      ∙ ap (λ (j : ℕ). set (join_tab m f1 ++ rest) j w) (let z : k * n + r + 1 ≡ k * n + (r + 1) = omega arith in z)
      ∙ join-set m f1 (put-long m f h k x lx) k (r + 1) w q b
      ∙ ap (λ (y : List ℕ). y ++ rest) (join-agree m (put_part k (set (f1 k) (r + 1) w) f1) g (λ i p. by i p (eqb i k) refl))
    where
      f1 : ℕ → List ℕ
      f1 = put_part k (set (f k) r v) f

      by : (i : ℕ) → i < m → (b : Bool) → eqb i k ≡ b → put_part k (set (f1 k) (r + 1) w) f1 i ≡ g i
      by i p true z =
          ap (put_part k (set (f1 k) (r + 1) w) f1) (eqb-true i k z) ∙ put_same k (set (f1 k) (r + 1) w) f1
          ∙ ap (λ (y : List ℕ). set y (r + 1) w) (put_same k (set (f k) r v) f) ∙ e ∙ ap g (sym (eqb-true i k z))
      by i p false z = put_other k (set (f1 k) (r + 1) w) f1 i (eqb-false i k z) ∙ put_other k (set (f k) r v) f i (eqb-false i k z) ∙ o i p (eqb-false i k z)
