-- The W_i of 6.2.3 one after the other, as the code goes through them: each is known from the one before it.
-- Assumes nothing.
use Rattle.std.specs.Prelude.{List, [], ◌∷◌, ℕ, zero, suc, ◌*◌}
use Rattle.words.specs.Word.{◌⊕◌}
use Rattle.gf64.specs.Gf64.{mul}
use Rattle.blocks.specs.Blocks.{block_at}

-- W_i = P_i + Z_(t+i+1)
abbrev pub summed : (ℕ → ℕ) → List ℕ → List ℕ
summed z [] = []
summed z (p ∷ ps) = p ⊕ z 0 ∷ summed (λ i. z (suc i)) ps

-- W_(i-1), where W_(-1) is w
abbrev pub before : ℕ → (ℕ → ℕ) → ℕ → ℕ
before w x zero = w
before w x (suc i) = x i

-- C_i = Z_t W_i + W_(i-1)
abbrev pub chained : (A : ℕ) → (ℕ → ℕ) → ℕ → ℕ
chained A x i = mul A (x i) ⊕ before 0 x i

-- W_i = I (C_i + W_(i-1)), where W_(-1) is w and I the multiplier's inverse
abbrev pub back_from : (I w : ℕ) → (ℕ → ℕ) → ℕ → ℕ
back_from I w c zero = mul I (c 0 ⊕ w)
back_from I w c (suc i) = mul I (c (suc i) ⊕ back_from I w c i)

abbrev pub backed : (I : ℕ) → (ℕ → ℕ) → ℕ → ℕ
backed I c = back_from I 0 c

-- P_i, where held has C_i + Z_(t+i+1)
abbrev pub unchained : (I : ℕ) → (sealed held : List ℕ) → ℕ → ℕ
unchained I s h i = block_at h (8 * i) ⊕ (block_at s (8 * i) ⊕ backed I (λ k. block_at s (8 * k)) i)
