-- The byte substitution SUB of AES (document 000, 8.1.8) and the function T of 8.2.5, which 8.5.5 has as Sub_K2, over GF(2)[x] modulo
-- x^8 + x^4 + x^3 + x + 1.
-- Assumes nothing.
use Rattle.std.specs.Prelude.{ℕ, ◌+◌, ◌*◌, ◌/◌, ◌%◌, ◌^◌}
use Rattle.words.specs.Word.{◌⊕◌, word, b0, b1, b2, b3}
use Rattle.field.specs.Gf8.{mul8, inverse}

abbrev pub aes : ℕ
aes = 0x11b

-- the eight digits of a moved k places up, those that leave coming in below
abbrev pub rotated : ℕ → ℕ → ℕ
rotated k a = a * 2 ^ k % 2 ^ 8 + a * 2 ^ k / 2 ^ 8

-- the affine map
abbrev pub affine : ℕ → ℕ
affine a = a ⊕ rotated 1 a ⊕ rotated 2 a ⊕ rotated 3 a ⊕ rotated 4 a ⊕ 0x63

-- SUB
unfoldable pub sub : ℕ → ℕ
sub a = affine (inverse aes a)

-- 8.2.5 c) to e): c(y) t(y) modulo y^4 + 1 with c(y) = (x + 1) y^3 + y^2 + y + x, its coefficients q3, q2, q1, q0
unfoldable pub mix : ℕ → ℕ → ℕ → ℕ → ℕ
mix t3 t2 t1 t0 =
    word
    (mul8 aes t0 3 ⊕ t1 ⊕ t2 ⊕ mul8 aes t3 2)
    (t0 ⊕ t1 ⊕ mul8 aes t2 2 ⊕ mul8 aes t3 3)
    (t0 ⊕ mul8 aes t1 2 ⊕ mul8 aes t2 3 ⊕ t3)
    (mul8 aes t0 2 ⊕ mul8 aes t1 3 ⊕ t2 ⊕ t3)

-- T
unfoldable pub fn_t : ℕ → ℕ
fn_t w = mix (sub (b3 w)) (sub (b2 w)) (sub (b1 w)) (sub (b0 w))
