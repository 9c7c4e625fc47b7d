-- MULTI-S01 on blocks (document 000, 6.2.3 b and c): A is Z_t, the first block of the keystream that is not 0, and z i is Z_(t+1+i).
-- Assumes nothing.
use Rattle.std.specs.Prelude.{Bool, List, [], ◌∷◌, ◌++◌, ℕ, suc, ◌+◌, ◌-◌, eqb, length, get_or, take}
use Rattle.words.specs.Word.{◌⊕◌}
use Rattle.words.specs.Tests.{both}
use Rattle.gf64.specs.Gf64.{mul, reciprocal}

-- W_i = P_i + Z_(t+i+1), C_i = Z_t W_i + W_(i-1)
abbrev pub seal_from : (A w : ℕ) → (ℕ → ℕ) → List ℕ → List ℕ
seal_from A w z [] = []
seal_from A w z (p ∷ ps) = mul A (p ⊕ z 0) ⊕ w ∷ seal_from A (p ⊕ z 0) (λ i. z (suc i)) ps

-- X_i = C_i + W_(i-1), W_i = Z_t^-1 X_i, P_i = W_i + Z_(t+i+1)
abbrev pub open_from : (A w : ℕ) → (ℕ → ℕ) → List ℕ → List ℕ
open_from A w z [] = []
open_from A w z (c ∷ cs) = mul (reciprocal A) (c ⊕ w) ⊕ z 0 ∷ open_from A (mul (reciprocal A) (c ⊕ w)) (λ i. z (suc i)) cs

-- P: the u blocks of the message, Z_(t+u+3) and the redundancy
abbrev pub padded : (ℕ → ℕ) → (R : ℕ) → List ℕ → List ℕ
padded z R msg = msg ++ (z (length msg + 2) ∷ R ∷ [])

unfoldable pub sealed : (A : ℕ) → (ℕ → ℕ) → (R : ℕ) → List ℕ → List ℕ
sealed A z R msg = seal_from A 0 z (padded z R msg)

-- what is recovered of v blocks, whether P_(v-2) is Z_(t+v+1) and P_(v-1) the redundancy, and the message
abbrev pub recovered : (A : ℕ) → (ℕ → ℕ) → List ℕ → List ℕ
recovered A z cs = open_from A 0 z cs

unfoldable pub genuine : (A : ℕ) → (ℕ → ℕ) → (R : ℕ) → List ℕ → Bool
genuine A z R cs = both (eqb (get_or (recovered A z cs) (length cs - 2) 0) (z (length cs))) (eqb (get_or (recovered A z cs) (length cs - 1) 0) R)

unfoldable pub message : (A : ℕ) → (ℕ → ℕ) → List ℕ → List ℕ
message A z cs = take (length cs - 2) (recovered A z cs)
