-- The register of Decim v2 (document 000, 8.4.7 to 8.4.9, and what 8.4.4 and 8.4.5 do with it): its 192 bits in six words, whose top bit has the lowest number.
-- Assumes nothing.
use Rattle.std.specs.Prelude.{List, [], ◌∷◌, map, ℕ, zero, suc, ◌+◌, ◌*◌, ◌/◌, ◌%◌, ◌-◌, ltb, get_or}
use Rattle.words.specs.Word.{◌⊕◌, bit}
use Rattle.words.specs.Lists.{tab, iter}
use Rattle.words.specs.Tests.{pick}

-- bit j of a word, and of a row of words, counted from the top
abbrev pub bit_in : ℕ → ℕ → ℕ
bit_in x j = bit (31 - j) x

infixl 80 ◌!◌
abbrev pub ◌!◌ : List ℕ → ℕ → ℕ
w ! j = bit_in (get_or w (j / 32) 0) (j % 32)

-- the number of n bits, f 0 on top, and n words of such bits
unfoldable pub joined_down : ℕ → (ℕ → ℕ) → ℕ
joined_down zero f = 0
joined_down (suc n) f = joined_down n f * 2 + f n

unfoldable pub of_bits : ℕ → (ℕ → ℕ) → List ℕ
of_bits n f = tab n (λ i. joined_down 32 (λ j. f (32 * i + j)))

-- 8.4.7: L
unfoldable pub l : List ℕ → ℕ
l w =
    w ! 0 ⊕ w ! 3 ⊕ w ! 4 ⊕ w ! 23 ⊕ w ! 36 ⊕ w ! 37 ⊕ w ! 60 ⊕ w ! 61 ⊕ w ! 98 ⊕ w ! 115 ⊕ w ! 146 ⊕ w ! 175 ⊕ w ! 176 ⊕ w ! 187

-- 8.4.9: Y, the bits and the products of two of them, wj wk for j < k as the clause's note has it
unfoldable pub sum : List ℕ → ℕ
sum [] = 0
sum (x ∷ w) = x ⊕ sum w

unfoldable pub products : List ℕ → ℕ
products [] = 0
products (x ∷ w) = sum (map (λ y. x * y) w) ⊕ products w

unfoldable pub y : List ℕ → ℕ
y w = sum w ⊕ products w

-- 8.4.8: LF
unfoldable pub lf : List ℕ → ℕ
lf w =
    y (w ! 13 ∷ w ! 28 ∷ w ! 45 ∷ w ! 54 ∷ w ! 65 ∷ w ! 104 ∷ w ! 111 ∷ w ! 144 ∷ w ! 162 ∷ w ! 172 ∷ w ! 178 ∷ w ! 186 ∷ w ! 191 ∷ [])

-- the register moved by one bit, with r as its last
unfoldable pub moved_in : List ℕ → ℕ → List ℕ
moved_in w r = of_bits 6 (λ j. pick (ltb j 191) (w ! (j + 1)) r)

-- 8.4.4, LFSR mode: a turn of step 2), and all four
unfoldable pub mixed : List ℕ → List ℕ
mixed w = moved_in w (l w ⊕ lf w)

unfoldable pub init_next_lfsr : List ℕ → List ℕ
init_next_lfsr a = iter 4 mixed a

-- 8.4.4, BUFF mode, and 8.4.5, step a): the register α(k), and fk
unfoldable pub clocked : List ℕ → List ℕ
clocked w = moved_in w (l w)

unfoldable pub f_of : List ℕ → ℕ
f_of w = w ! 1 ⊕ lf w
