-- KCipher-2 (document 000, 8.5, in document 01's readings). A state is the struct's record: a is A0..A4, b is B0..B10, and R1, L1, R2, L2.
-- Assumes nothing.
use Rattle.std.specs.Prelude.{ℕ, zero, suc, List, [], ◌∷◌, ◌++◌, slice_index, slice_index_or}
use Rattle.words.specs.Word.{◌⊕◌, ◌+₃₂◌, rotl, bit}
use Rattle.words.specs.Strings.{four_at, bytes_of}
use Rattle.words.specs.Lists.{shifted, iter}
use Rattle.field.specs.Gf32.{times, alpha}
use Rattle.field.specs.Aes.{fn_t}
use Rattle.kcipher2_tables.specs.Tables.{field0, field1, field2, field3}
use Rattle.kcipher2.specs.declared.Kcipher2.{Kcipher2}

-- Am and Bm
abbrev pub cell_a : Kcipher2 → ℕ → ℕ
cell_a s m = slice_index s.a m

abbrev pub cell_b : Kcipher2 → ℕ → ℕ
cell_b s m = slice_index s.b m

-- 8.5.10: NLF
abbrev pub nlf : ℕ → ℕ → ℕ → ℕ → ℕ
nlf a b c d = (a +₃₂ b) ⊕ c ⊕ d

-- x where the digit e is 1, and y where it is 0
abbrev pub by_digit : ℕ → ℕ → ℕ → ℕ
by_digit zero x y = y
by_digit (suc e) x y = x

-- 8.5.4: the two words of Strm
unfoldable pub strm_high : Kcipher2 → ℕ
strm_high s = nlf (cell_b s 10) s.l2 s.l1 (cell_a s 0)

unfoldable pub strm_low : Kcipher2 → ℕ
strm_low s = nlf (cell_b s 0) s.r2 s.r1 (cell_a s 4)

unfoldable pub strm : Kcipher2 → List ℕ
strm s = strm_high s ∷ strm_low s ∷ []

-- 8.5.3 d), with the product of 8.5.6: the word that comes into A, in null mode; in INIT mode the low word of Strm is added
unfoldable pub fed_a : Kcipher2 → ℕ
fed_a s = times field0 alpha (cell_a s 0) ⊕ cell_a s 3

-- 8.5.7 and 8.5.8: α1^e + α2^(1 - e) - 1, times w: α1 w where e is 1, and α2 w where it is 0
unfoldable pub one_or_two : ℕ → ℕ → ℕ
one_or_two e w = by_digit e (times field1 alpha w) (times field2 alpha w)

-- 8.5.9: α3^e, times w
unfoldable pub three_or_none : ℕ → ℕ → ℕ
three_or_none e w = by_digit e (times field3 alpha w) w

-- 8.5.3 e): the word that comes into B, in null mode; in INIT mode the high word of Strm is added
unfoldable pub fed_b : Kcipher2 → ℕ
fed_b s = one_or_two (bit 30 (cell_a s 2)) (cell_b s 0) ⊕ cell_b s 1 ⊕ cell_b s 6 ⊕ three_or_none (bit 31 (cell_a s 2)) (cell_b s 8)

-- 8.5.3 f): A and B moved, with the words x and y, and the words of the nonlinear part
abbrev pub pushed : Kcipher2 → (x y r1 l1 r2 l2 : ℕ) → Kcipher2
pushed s x y r1 l1 r2 l2 = record { a = shifted s.a x; b = shifted s.b y; r1 = r1; l1 = l1; r2 = r2; l2 = l2 }

-- 8.5.3 a) to c) and f): the next state, with the words x and y
abbrev pub sum_right : Kcipher2 → ℕ
sum_right s = s.l2 +₃₂ cell_b s 9

abbrev pub sum_left : Kcipher2 → ℕ
sum_left s = s.r2 +₃₂ cell_b s 4

unfoldable pub clocked : Kcipher2 → ℕ → ℕ → Kcipher2
clocked s x y = pushed s x y (fn_t (sum_right s)) (fn_t (sum_left s)) (fn_t s.r1) (fn_t s.l1)

-- 8.5.3: Next in null mode, and in INIT mode
unfoldable pub next : Kcipher2 → Kcipher2
next s = clocked s (fed_a s) (fed_b s)

unfoldable pub next_init : Kcipher2 → Kcipher2
next_init s = clocked s (fed_a s ⊕ strm_low s) (fed_b s ⊕ strm_high s)

-- 8.5.2 a) 2): four words of the internal key, of the four before them and Rcon, whose one byte stands on top
abbrev pub first_of : List ℕ → ℕ → ℕ
first_of k rcon = slice_index_or k 0 0 ⊕ fn_t (rotl 8 (slice_index k 3)) ⊕ rcon

unfoldable pub expanded : List ℕ → ℕ → List ℕ
expanded k rcon =
    first_of k rcon
    ∷ slice_index_or k 1 0 ⊕ first_of k rcon
    ∷ slice_index_or k 2 0 ⊕ (slice_index_or k 1 0 ⊕ first_of k rcon)
    ∷ slice_index_or k 3 0 ⊕ (slice_index_or k 2 0 ⊕ (slice_index_or k 1 0 ⊕ first_of k rcon))
    ∷ []

-- 8.5.2 b): A and B of the internal key, whose words 0 to 3 are k, 4 to 7 are e and 8 to 11 are g, and of the IV's words v
unfoldable pub cells_a : (k e : List ℕ) → List ℕ
cells_a k e = slice_index e 0 ∷ slice_index k 3 ∷ slice_index k 2 ∷ slice_index k 1 ∷ slice_index k 0 ∷ []

unfoldable pub cells_b : (e g v : List ℕ) → List ℕ
cells_b e g v =
    slice_index g 2 ∷ slice_index g 3 ∷ slice_index v 0 ∷ slice_index v 1 ∷ slice_index g 0 ∷ slice_index g 1 ∷ slice_index v 2 ∷ slice_index v 3
    ∷ slice_index e 3 ∷ slice_index e 1 ∷ slice_index e 2 ∷ []

unfoldable pub arranged : (k e g v : List ℕ) → Kcipher2
arranged k e g v = record { a = cells_a k e; b = cells_b e g v; r1 = 0; l1 = 0; r2 = 0; l2 = 0 }

abbrev pub key4 : List ℕ → List ℕ
key4 k = expanded (four_at k 0) 0x01000000

unfoldable pub loaded : List ℕ → List ℕ → Kcipher2
loaded k iv = arranged (four_at k 0) (key4 k) (expanded (key4 k) 0x02000000) (four_at iv 0)

-- 8.5.2: Init, of a key and an IV of 16 bytes
unfoldable pub init : List ℕ → List ℕ → Kcipher2
init k iv = iter 24 next_init (loaded k iv)

-- document 01's unit: the u bytes of Strm, the high word first, most significant byte first
abbrev pub u : ℕ
u = 8

unfoldable pub unit : Kcipher2 → List ℕ
unit s = bytes_of (strm_high s) ++ bytes_of (strm_low s)
