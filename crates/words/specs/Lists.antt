-- Registers as lists, and what holds of each element of a list.
-- Assumes nothing.
use Rattle.std.specs.Prelude.{List, [], ◌∷◌, ◌++◌, ℕ, zero, suc, ◌^◌, ◌<◌, drop}

-- f 0, .., f (n - 1)
abbrev pub tab : ℕ → (ℕ → ℕ) → List ℕ
tab zero f = []
tab (suc n) f = f zero ∷ tab n (λ i. f (suc i))

-- a register moved by one cell, with x as its last
unfoldable pub shifted : List ℕ → ℕ → List ℕ
shifted a x = drop 1 a ++ (x ∷ [])

-- f, n times
unfoldable pub iter {ℓ} : {A : Type ℓ} → ℕ → (A → A) → A → A
iter zero f x = x
iter (suc n) f x = f (iter n f x)

-- P holds of each element
pub data All (P : ℕ → Type 0) : List ℕ → Type 0 where
  none : All P []
  more : {x : ℕ} {l : List ℕ} → P x → All P l → All P (x ∷ l)

-- x is a byte; x is a word
abbrev pub Byte : ℕ → Type 0
Byte x = x < 2 ^ 8

abbrev pub Word : ℕ → Type 0
Word x = x < 2 ^ 32
