-- Words: numbers below 2^32, with the operations that the standard names (document 000, 4.1 and 4.2).
-- Assumes nothing.
use Rattle.std.specs.Prelude.{ℕ, ◌+◌, ◌*◌, ◌/◌, ◌%◌, ◌-◌, ◌^◌}
use Rattle.std.specs.Int.Bits.{bit_xor}

-- a ⊕ b, digit by digit
infixl 68 ◌⊕◌
abbrev pub ◌⊕◌ : ℕ → ℕ → ℕ
a ⊕ b = bit_xor a b

-- the sum modulo 2^32
infixl 68 ◌+₃₂◌
abbrev pub ◌+₃₂◌ : ℕ → ℕ → ℕ
a +₃₂ b = (a + b) % 2 ^ 32

-- x <<< k, for k from 1 to 31
abbrev pub rotl : ℕ → ℕ → ℕ
rotl k x = (x * 2 ^ k) % 2 ^ 32 + x / 2 ^ (32 - k)

-- ¬ x
abbrev pub not32 : ℕ → ℕ
not32 x = (2 ^ 32 - 1) - x

-- x[k], the digit of 2^k
abbrev pub bit : ℕ → ℕ → ℕ
bit k x = x / 2 ^ k % 2

-- h || l, where l has 16 bits
infixl 68 ◌∥◌
abbrev pub ◌∥◌ : ℕ → ℕ → ℕ
h ∥ l = h * 2 ^ 16 + l

-- the leftmost and the rightmost 16 bits of a word
abbrev pub high : ℕ → ℕ
high x = x / 2 ^ 16

abbrev pub low : ℕ → ℕ
low x = x % 2 ^ 16

-- w = (b3, b2, b1, b0), each of 8 bits
abbrev pub b3 : ℕ → ℕ
b3 w = w / 2 ^ 24 % 2 ^ 8

abbrev pub b2 : ℕ → ℕ
b2 w = w / 2 ^ 16 % 2 ^ 8

abbrev pub b1 : ℕ → ℕ
b1 w = w / 2 ^ 8 % 2 ^ 8

abbrev pub b0 : ℕ → ℕ
b0 w = w % 2 ^ 8

-- the word (a, b, c, d)
abbrev pub word : ℕ → ℕ → ℕ → ℕ → ℕ
word a b c d = ((a * 2 ^ 8 + b) * 2 ^ 8 + c) * 2 ^ 8 + d
