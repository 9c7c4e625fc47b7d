-- GF(2^64) over x^64 + x^4 + x^3 + x + 1 (document 000, 6.2.3, NOTE 2). The first bit of a block is the coefficient of x^63.
-- Assumes nothing.
use Rattle.std.specs.Prelude.{ℕ, ◌+◌, ◌^◌}
use Rattle.field.specs.Gf2.{times_x, product, squares}

abbrev pub polynomial : ℕ
polynomial = 2 ^ 64 + 0x1b

-- x a
unfoldable pub by_x : ℕ → ℕ
by_x a = times_x 64 polynomial a

-- a b
unfoldable pub mul : ℕ → ℕ → ℕ
mul a b = product 64 polynomial a b

-- 1/a, which is a^(2^64 - 2) = a^2 a^4 .. a^(2^63), and 0 of 0
abbrev pub reciprocal : ℕ → ℕ
reciprocal a = squares mul 63 1 a
