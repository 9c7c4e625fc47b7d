-- Tables by their rules: over a polynomial of GF(2^8) and a multiplier, for every polynomial and every multiplier.
-- Assumes nothing.
use Rattle.std.specs.Prelude.{List, ℕ}
use Rattle.words.specs.Lists.{tab}
use Rattle.field.specs.Gf8.{inverse}
use Rattle.field.specs.Gf32.{scaled}
use Rattle.field.specs.Aes.{affine}

-- the products of v with the elements of GF(2^8) over p
unfoldable pub products_of : ℕ → ℕ → List ℕ
products_of p v = tab 256 (λ k. scaled p k v)

-- AES's substitution, over p
unfoldable pub substitution_of : ℕ → List ℕ
substitution_of p = tab 256 (λ a. affine (inverse p a))
