-- Polynomials over GF(2) modulo one of degree d: a polynomial is the number whose binary digits are its coefficients; a sum is an exclusive or.
-- The products of GF(2^8) and of GF(2^64) are this one `product`, of degree 8 and of degree 64.
-- Assumes nothing.
use Rattle.std.specs.Prelude.{ℕ, zero, suc, ◌-◌, ◌*◌, ◌/◌, ◌%◌, ◌^◌}
use Rattle.words.specs.Word.{◌⊕◌}

-- the digit d times a
abbrev pub if_one : ℕ → ℕ → ℕ
if_one zero a = 0
if_one (suc d) a = a

-- x a modulo p of degree d: where a has the term x^(d - 1), x^d is what p has below it
abbrev pub times_x : (d p a : ℕ) → ℕ
times_x d p a = (a * 2 % 2 ^ d) ⊕ (if_one (a / 2 ^ (d - 1) % 2) (p % 2 ^ d))

-- a times the polynomial of the n lowest digits of b, where a product with x is what `by_x` makes
abbrev pub mul_digits : (by_x : ℕ → ℕ) (n a b : ℕ) → ℕ
mul_digits by_x zero a b = 0
mul_digits by_x (suc n) a b = (if_one (b % 2) a) ⊕ (mul_digits by_x n (by_x a) (b / 2))

-- a b modulo p of degree d
abbrev pub product : (d p a b : ℕ) → ℕ
product d p a b = mul_digits (times_x d p) d a b

-- r times a^2, a^4, .., n factors, where a product is what `mul` makes
unfoldable pub squares : (mul : ℕ → ℕ → ℕ) (n r a : ℕ) → ℕ
squares mul zero r a = r
squares mul (suc n) r a = squares mul n (mul r (mul a a)) (mul a a)
