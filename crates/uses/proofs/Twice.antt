-- Lists in which nothing stands twice: parts of such a list, and what may be put behind one.
-- Assumes nothing.
use Prim.Native.Nat.{ℕ, zero, suc, ◌<◌}
use mathlib.Core.Path.{◌≡◌, refl}
use mathlib.Core.List.{List, [], ◌∷◌, ◌++◌}
use native.Mathlib.Omega.{arith}
use Rattle.uses.specs.Uses.{KeyByte, first_bytes, In, in_head, in_tail, NoneTwice}

-- nothing stands in an empty list
abbrev Some : {A : Type 0} → List A → Type 0
Some [] = ⊥
Some (y ∷ l) = Unit {0}

some : {A : Type 0} {x : A} {l : List A} → In x l → Some l
some in_head = tt
some (in_tail i) = tt

pub in-none : {A : Type 0} {x : A} → In x [] → ⊥
in-none i = some i

-- in one of two lists
pub data Either {A : Type 0} (x : A) (xs ys : List A) : Type 0 where
  in-first : In x xs → Either x xs ys
  in-second : In x ys → Either x xs ys

pub either-in : {A : Type 0} {x : A} (xs ys : List A) → In x (xs ++ ys) → Either x xs ys
either-in [] ys i = in-second i
either-in (y ∷ xs) ys in_head = in-first in_head
either-in {x = x} (y ∷ xs) ys (in_tail i) = on (either-in xs ys i)
  where
    on : Either x xs ys → Either x (y ∷ xs) ys
    on (in-first j) = in-first (in_tail j)
    on (in-second j) = in-second j

pub first-in : {A : Type 0} {x : A} {xs : List A} (ys : List A) → In x xs → In x (xs ++ ys)
first-in ys in_head = in_head
first-in ys (in_tail i) = in_tail (first-in ys i)

pub second-in : {A : Type 0} {x : A} (xs : List A) {ys : List A} → In x ys → In x (xs ++ ys)
second-in [] i = i
second-in (y ∷ xs) i = in_tail (second-in xs i)

pub only : {A : Type 0} (x y : A) → In x (y ∷ []) → x ≡ y
only x y in_head = refl
only x y (in_tail i) = absurd (in-none i)

-- what stands in the first part does not stand in the second, and the first part has nothing twice
pub parts-apart : {A : Type 0} {x : A} (xs ys : List A) → NoneTwice (xs ++ ys) → In x xs → In x ys → ⊥
parts-apart [] ys n i j = elim i [ ]
parts-apart (y ∷ xs) ys n in_head j = n.0 (second-in xs j)
parts-apart (y ∷ xs) ys n (in_tail i) j = parts-apart xs ys n.1 i j

pub none_before : {A : Type 0} (xs ys : List A) → NoneTwice (xs ++ ys) → NoneTwice xs
none_before [] ys n = tt
none_before (x ∷ xs) ys n = (λ i. n.0 (first-in ys i), none_before xs ys n.1)

pub none-twice : {A : Type 0} (xs ys : List A) → NoneTwice xs → NoneTwice ys → ((x : A) → In x xs → In x ys → ⊥) → NoneTwice (xs ++ ys)
none-twice [] ys n m f = m
none-twice {A} (x ∷ xs) ys n m f = (λ i. by (either-in xs ys i), none-twice xs ys n.1 m (λ y i j. f y (in_tail i) j))
  where
    by : Either x xs ys → ⊥
    by (in-first i) = n.0 i
    by (in-second i) = f x in_head i

-- ---- the first of bytes to come

-- which of them a byte is
pub record Nth (n : ℕ) (f : ℕ → KeyByte) (b : KeyByte) : Type 0 where
  pub number : ℕ
  pub below : number < n
  pub is : b ≡ f number

pub nth_of : (n : ℕ) (f : ℕ → KeyByte) (b : KeyByte) → In b (first_bytes n f) → Nth n f b
nth_of zero f b i = elim i [ ]
nth_of (suc n) f b in_head = record { number = 0; below = omega arith; is = refl }
nth_of (suc n) f b (in_tail i) =
    let w = nth_of n (λ k. f (suc k)) b i in
    let q = w.below in
    record { number = suc w.number; below = omega (arith, q); is = w.is }

pub nth_in : (n : ℕ) (f : ℕ → KeyByte) (k : ℕ) → k < n → In (f k) (first_bytes n f)
nth_in zero f k q = absurd (omega (arith, q))
nth_in (suc n) f zero q = in_head
nth_in (suc n) f (suc k) q = in_tail (nth_in n (λ j. f (suc j)) k (omega (arith, q)))

pub first-once : (n : ℕ) (f : ℕ → KeyByte) → ((k l : ℕ) → f k ≡ f l → k ≡ l) → NoneTwice (first_bytes n f)
first-once zero f h = tt
first-once (suc n) f h = (
  λ i. let w = nth_of n (λ k. f (suc k)) (f zero) i in let z = h zero (suc w.number) w.is in omega (arith, z),
  first-once n (λ k. f (suc k)) (λ k l e. let z = h (suc k) (suc l) e in omega (arith, z)),
)
