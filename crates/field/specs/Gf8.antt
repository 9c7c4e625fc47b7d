-- GF(2^8) over a polynomial p of degree 8.
-- Assumes nothing.
use Rattle.std.specs.Prelude.{ℕ}
use Rattle.field.specs.Gf2.{product}
unfoldable pub use Rattle.field.specs.Gf2.{squares}

-- a b modulo p
abbrev pub mul8 : ℕ → ℕ → ℕ → ℕ
mul8 p a b = product 8 p a b

-- 1/a modulo p, which is a^254 = a^2 a^4 .. a^128, and 0 of 0
abbrev pub inverse : ℕ → ℕ → ℕ
inverse p a = squares (mul8 p) 7 1 a
