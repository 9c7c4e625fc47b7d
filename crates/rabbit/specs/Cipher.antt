-- Rabbit (document 002, 7.3, in document 01's readings). A state is the struct's record: x is X0..X7, c is C0..C7, b is the carry. Byte order and the
-- first block are annex C's: byte 0 of key, IV and keystream holds the lowest bits.
-- Assumes nothing.
use Rattle.std.specs.Prelude.{ℕ, zero, suc, ◌+◌, ◌*◌, ◌/◌, ◌%◌, ◌^◌, List, [], ◌∷◌, ◌++◌, slice_index, slice_index_or}
use Rattle.words.specs.Word.{◌⊕◌, ◌+₃₂◌, ◌∥◌, rotl, high, low}
use Rattle.words.specs.Strings.{bytes_up}
use Rattle.words.specs.Lists.{tab, iter}
use Rattle.rabbit_tables.specs.Tables.{a_list}
use Rattle.rabbit.specs.declared.Rabbit.{Rabbit}
use Rattle.rabbit.specs.declared.Counted.{Counted}

-- the first where j is even, else the second
abbrev pub choose : ℕ → ℕ → ℕ → ℕ
choose zero a b = a
choose (suc d) a b = b

abbrev pub if_even : ℕ → ℕ → ℕ → ℕ
if_even j a b = choose (j % 2) a b

-- the element at an index modulo 8
abbrev pub at8 : List ℕ → ℕ → ℕ
at8 l j = slice_index l (j % 8)

-- the low 32 digits of t and those above them, added digit by digit
abbrev pub folded : ℕ → ℕ
folded t = (t % 2 ^ 32) ⊕ (t / 2 ^ 32)

-- 7.3.5: g
unfoldable pub g : ℕ → ℕ → ℕ
g u v = folded ((u +₃₂ v) * (u +₃₂ v))

-- 7.3.3, steps 2 to 4: bj is the carry into counter j, b0 the state's. temp has 33 bits where b is 0 or 1, and its digits above the lowest 32 are temp[32].
unfoldable pub carry_at : List ℕ → ℕ → ℕ → ℕ
carry_at c b zero = b
carry_at c b (suc j) = (slice_index c j + slice_index a_list j + carry_at c b j) / 2 ^ 32

-- counter j after the step
abbrev pub counter_at : List ℕ → ℕ → ℕ → ℕ
counter_at c b j = (slice_index c j + slice_index a_list j + carry_at c b j) % 2 ^ 32

-- the counters after the step, and the carry out of the last
unfoldable pub counted : List ℕ → ℕ → Counted
counted c b = record { c = tab 8 (counter_at c b); b = carry_at c b 8 }

-- step 5: G0..G7
unfoldable pub gs : List ℕ → List ℕ → List ℕ
gs x c = tab 8 (λ j. g (slice_index x j) (slice_index c j))

-- step 6: Xj, with j - 1 and j - 2 modulo 8
abbrev pub mixed_at : List ℕ → ℕ → ℕ
mixed_at l j =
    if_even j (at8 l j +₃₂ rotl 16 (at8 l (j + 7)) +₃₂ rotl 16 (at8 l (j + 6)))
    (at8 l j +₃₂ rotl 8 (at8 l (j + 7)) +₃₂ at8 l (j + 6))

-- X0..X7
unfoldable pub mixed : List ℕ → List ℕ
mixed l = tab 8 (mixed_at l)

-- the state after the step, of the state variables before it and the counters after it
abbrev pub next_of : List ℕ → Counted → Rabbit
next_of x n = record { x = mixed (gs x n.c); c = n.c; b = n.b }

-- 7.3.3: Next
unfoldable pub next : Rabbit → Rabbit
next s = next_of s.x (counted s.c s.b)

-- a word of Z: the high half of v with the low one of w, above the low half of v with the high one of y
abbrev pub part : ℕ → ℕ → ℕ → ℕ
part v w y = (high v ⊕ low w) ∥ (low v ⊕ high y)

-- 7.3.4: word j of Z, from the lowest
abbrev pub strm_at : Rabbit → ℕ → ℕ
strm_at s j = part (at8 s.x (2 * j)) (at8 s.x (2 * j + 3)) (at8 s.x (2 * j + 5))

-- Z, its four words of 32 bits, the lowest first
unfoldable pub strm : Rabbit → List ℕ
strm s = tab 4 (strm_at s)

-- the 16 bits whose low byte is byte i of s
unfoldable pub half_at : List ℕ → ℕ → ℕ
half_at s i = slice_index s (i + 1) * 2 ^ 8 + slice_index s i

-- 7.3.2, step 1: K0..K7
unfoldable pub parts8 : List ℕ → List ℕ
parts8 k = tab 8 (λ j. half_at k (2 * j))

-- the four parts of 16 bits of an IV
unfoldable pub parts4 : List ℕ → List ℕ
parts4 iv = tab 4 (λ j. half_at iv (2 * j))

-- step 2: Xj, of K0..K7
abbrev pub x_at : List ℕ → ℕ → ℕ
x_at k j = if_even j (at8 k (j + 1) ∥ at8 k j) (at8 k (j + 5) ∥ at8 k (j + 4))

-- step 2: Cj
abbrev pub c_at : List ℕ → ℕ → ℕ
c_at k j = if_even j (at8 k (j + 4) ∥ at8 k (j + 5)) (at8 k j ∥ at8 k (j + 1))

-- step 2, with a carry of 0
unfoldable pub arranged : List ℕ → Rabbit
arranged k = record { x = tab 8 (x_at k); c = tab 8 (c_at k); b = 0 }

-- steps 1 and 2
unfoldable pub loaded : List ℕ → Rabbit
loaded k = arranged (parts8 k)

-- steps 1 to 3: the state that one key keeps for every IV
unfoldable pub master : List ℕ → Rabbit
master k = iter 4 next (loaded k)

-- step 4.1: the four words that it adds, of IV[15..0], IV[31..16], IV[47..32] and IV[63..48]
unfoldable pub iv_words : List ℕ → List ℕ
iv_words h = (slice_index_or h 1 0 ∥ slice_index_or h 0 0) ∷ (slice_index_or h 3 0 ∥ slice_index_or h 1 0) ∷ (slice_index_or h 3 0 ∥ slice_index_or h 2 0) ∷ (slice_index_or h 2 0 ∥ slice_index_or h 0 0) ∷ []

-- step 4.1: C0..C7, each with X four places on and with a word of v
unfoldable pub modified : List ℕ → List ℕ → List ℕ → List ℕ
modified x c v = tab 8 (λ j. slice_index_or c j 0 ⊕ at8 x (j + 4) ⊕ slice_index_or v (j % 4) 0)

-- step 4
unfoldable pub with_iv : Rabbit → List ℕ → Rabbit
with_iv s iv = record { x = s.x; c = modified s.x s.c (iv_words (parts4 iv)); b = s.b }

-- steps 4 to 6, and one Next more: annex C takes the first block from S(1) of the clause, which is S(0) here
unfoldable pub started : Rabbit → List ℕ → Rabbit
started s iv = next (iter 4 next (with_iv s iv))

-- 7.3.2: Init, of a key of 16 bytes and an IV of 8
unfoldable pub init : List ℕ → List ℕ → Rabbit
init k iv = started (master k) iv

-- document 01's unit: the u bytes of Strm, in annex C's order
abbrev pub u : ℕ
u = 16

unfoldable pub unit : Rabbit → List ℕ
unit s = bytes_up (strm_at s 0) ++ bytes_up (strm_at s 1) ++ bytes_up (strm_at s 2) ++ bytes_up (strm_at s 3)
