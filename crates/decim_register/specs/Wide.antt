-- Thirty-two turns at once, in words: what the register feeds itself in so many turns, the bits fk that it hands on, and sums of bits that are counted word by word.
-- Assumes nothing.
use Rattle.std.specs.Prelude.{List, [], ◌∷◌, ◌++◌, ℕ, ◌+◌, ◌*◌, ◌/◌, ◌%◌, ◌-◌, ◌^◌}
use Rattle.std.specs.Int.Bits.{bit_and}
use Rattle.words.specs.Word.{◌⊕◌}
use Rattle.words.specs.Lists.{iter}
use Rattle.decim_register.specs.Register.{◌!◌, joined_down, l, lf, clocked, f_of}
use Rattle.decim_register.specs.declared.Sum.{Sum}

-- bits j to j + 31 of a row of words
unfoldable pub window : List ℕ → ℕ → ℕ
window w j = joined_down 32 (λ k. w ! (j + k))

-- what L feeds in 32 turns, LF in each of them, and f0 to f31, the first on top
unfoldable pub fed_word : List ℕ → ℕ
fed_word a = joined_down 32 (λ k. l (iter k clocked a))

unfoldable pub lf_word : List ℕ → ℕ
lf_word a = joined_down 32 (λ k. lf (iter k clocked a))

unfoldable pub f_word : List ℕ → ℕ
f_word a = joined_down 32 (λ k. f_of (iter k clocked a))

-- the register, and after it what is fed
abbrev pub on : List ℕ → List ℕ
on a = a ++ (fed_word a ∷ [])

-- a word moved up by m bits, with the top bits of the word after it
abbrev pub spliced : ℕ → ℕ → ℕ → ℕ
spliced x y m = x * 2 ^ m % 2 ^ 32 + y / 2 ^ (32 - m)

-- what L feeds but for the turns that it depends on itself, of the first three words of a register and of the last three
unfoldable pub known_low : ℕ → ℕ → ℕ → ℕ
known_low x y z =
    x ⊕ spliced x y 3 ⊕ spliced x y 4 ⊕ spliced x y 23 ⊕ spliced y z 4 ⊕ spliced y z 5 ⊕ spliced y z 28 ⊕ spliced y z 29

unfoldable pub known_high : ℕ → ℕ → ℕ → ℕ
known_high x y z =
    spliced x y 2 ⊕ spliced x y 19 ⊕ spliced y z 18 ⊕ (z * 2 ^ 15 % 2 ^ 32) ⊕ (z * 2 ^ 16 % 2 ^ 32) ⊕ (z * 2 ^ 27 % 2 ^ 32)

-- the word that its own bits five, sixteen and seventeen turns back make of x
abbrev pub back : ℕ → ℕ
back x = x / 2 ^ 5 ⊕ (x / 2 ^ 16 ⊕ x / 2 ^ 17)

unfoldable pub solution : ℕ → ℕ
solution x = let y = x ⊕ back x in let z = y ⊕ y / 2 ^ 10 in z ⊕ z / 2 ^ 20

-- a word of bits more, added to sums modulo 4: low has their lowest digits, high the others
unfoldable pub added : Sum → ℕ → Sum
added s w = record { low = s.low ⊕ w; high = s.high ⊕ bit_and s.low w }

unfoldable pub counted : Sum → List ℕ → Sum
counted s [] = s
counted s (w ∷ ws) = counted (added s w) ws

-- the bits that LF takes
abbrev pub lf_taps : List ℕ
lf_taps = 13 ∷ 28 ∷ 45 ∷ 54 ∷ 65 ∷ 104 ∷ 111 ∷ 144 ∷ 162 ∷ 172 ∷ 178 ∷ 186 ∷ 191 ∷ []
