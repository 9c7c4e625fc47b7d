-- GF(2^32) as GF(2^8)[y] modulo a polynomial of degree 4. A word is the polynomial whose coefficients are its bytes: (b3, b2, b1, b0) is
-- b3 y^3 + b2 y^2 + b1 y + b0.
-- Assumes nothing.
use Rattle.std.specs.Prelude.{◌≡◌, List, ℕ, ◌^◌, ◌<◌, get_or}
use Rattle.words.specs.Word.{◌⊕◌, word, b0, b1, b2, b3}
use Rattle.field.specs.Gf8.{mul8, inverse}

-- a field: the polynomial of its GF(2^8), and y^4, whose bytes are the coefficients of the lower powers of y
pub record Field : Type 0 where
  pub modulus : ℕ
  pub y4 : ℕ

-- the element c of GF(2^8) over p times w
abbrev pub scaled : ℕ → ℕ → ℕ → ℕ
scaled p c w = word (mul8 p (b3 w) c) (mul8 p (b2 w) c) (mul8 p (b1 w) c) (mul8 p (b0 w) c)

-- the same over a field's polynomial
abbrev pub scale : Field → ℕ → ℕ → ℕ
scale f c w = scaled f.modulus c w

-- y w = b2 y^3 + b1 y^2 + b0 y + b3 y^4
unfoldable pub times_y : Field → ℕ → ℕ
times_y f w = (word (b2 w) (b1 w) (b0 w) 0) ⊕ (scale f (b3 w) f.y4)

-- a w = a0 w + y (a1 w + y (a2 w + y (a3 w)))
unfoldable pub times : Field → ℕ → ℕ → ℕ
times f a w = (scale f (b0 a) w) ⊕ (times_y f ((scale f (b1 a) w) ⊕ (times_y f ((scale f (b2 a) w) ⊕ (times_y f (scale f (b3 a) w))))))

-- the element α of a field is y
abbrev pub alpha : ℕ
alpha = 0x100

-- 1/α, where y^4 = c3 y^3 + c2 y^2 + c1 y + c0 is the word c: divided by c0 y it is 1/y = (1/c0) y^3 + (c3/c0) y^2 + (c2/c0) y + c1/c0
unfoldable pub over_alpha : ℕ → ℕ → ℕ
over_alpha p c =
    word (inverse p (b0 c)) (mul8 p (b3 c) (inverse p (b0 c))) (mul8 p (b2 c) (inverse p (b0 c))) (mul8 p (b1 c) (inverse p (b0 c)))

-- the list t is the table of the products of v with the elements of GF(2^8)
abbrev pub Products : Field → ℕ → List ℕ → Type 0
Products f v t = (k : ℕ) → k < 2 ^ 8 → get_or t k 0 ≡ scale f k v

-- r is α w in every field whose products with y^4 the list t holds
abbrev pub AlphaTimes : List ℕ → ℕ → ℕ → Type 0
AlphaTimes t w r = (f : Field) → Products f f.y4 t → r ≡ times f alpha w
