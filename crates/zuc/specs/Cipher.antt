-- ZUC (document 003, 8.6, in document 01's readings). A state is the struct's record: a is A0..A15, r1 is R1, r2 is R2.
-- Assumes nothing.
use Rattle.std.specs.Prelude.{ℕ, zero, suc, ◌+◌, ◌-◌, ◌*◌, ◌/◌, ◌%◌, ◌^◌, List, slice_index}
use Rattle.words.specs.Word.{◌⊕◌, ◌+₃₂◌, ◌∥◌, rotl, high, low, word, b0, b1, b2, b3}
use Rattle.words.specs.Strings.{bytes_of}
use Rattle.words.specs.Lists.{tab, shifted, iter}
use Rattle.zuc_tables.specs.Tables.{sub1, sub2, d}
use Rattle.zuc.specs.declared.Zuc.{Zuc}

-- Ai
abbrev pub cell : Zuc → ℕ → ℕ
cell s i = slice_index s.a i

-- AH, the leftmost 16 bits of a cell of 31; AL is `low`
abbrev pub cell_high : ℕ → ℕ
cell_high a = a / 2 ^ 15 % 2 ^ 16

-- 8.6.6
unfoldable pub l1 : ℕ → ℕ
l1 x = x ⊕ rotl 2 x ⊕ rotl 10 x ⊕ rotl 18 x ⊕ rotl 24 x

unfoldable pub l2 : ℕ → ℕ
l2 x = x ⊕ rotl 8 x ⊕ rotl 14 x ⊕ rotl 22 x ⊕ rotl 30 x

-- 8.6.5
unfoldable pub ss : ℕ → ℕ
ss x = word (slice_index sub1 (b3 x)) (slice_index sub2 (b2 x)) (slice_index sub1 (b1 x)) (slice_index sub2 (b0 x))

-- 8.6.3 a) and 8.6.4 a)
abbrev pub x0 : Zuc → ℕ
x0 s = cell_high (cell s 15) ∥ low (cell s 14)

abbrev pub x1 : Zuc → ℕ
x1 s = low (cell s 11) ∥ cell_high (cell s 9)

abbrev pub x2 : Zuc → ℕ
x2 s = low (cell s 7) ∥ cell_high (cell s 5)

abbrev pub x3 : Zuc → ℕ
x3 s = low (cell s 2) ∥ cell_high (cell s 0)

-- 8.6.3 b): W, W1 and W2, and the next R1 and R2 of W1 and W2
unfoldable pub w : Zuc → ℕ
w s = (x0 s ⊕ s.r1) +₃₂ s.r2

abbrev pub w1 : Zuc → ℕ
w1 s = s.r1 +₃₂ x1 s

abbrev pub w2 : Zuc → ℕ
w2 s = s.r2 ⊕ x2 s

unfoldable pub next_r1 : ℕ → ℕ → ℕ
next_r1 y1 y2 = ss (l1 (low y1 ∥ high y2))

unfoldable pub next_r2 : ℕ → ℕ → ℕ
next_r2 y1 y2 = ss (l2 (low y2 ∥ high y1))

-- 8.6.3 c): V
unfoldable pub weighed : (a15 a13 a10 a4 a0 : ℕ) → ℕ
weighed a15 a13 a10 a4 a0 = (2 ^ 15 * a15 + 2 ^ 17 * a13 + 2 ^ 21 * a10 + 2 ^ 20 * a4 + (1 + 2 ^ 8) * a0) % (2 ^ 31 - 1)

abbrev pub v : Zuc → ℕ
v s = weighed (cell s 15) (cell s 13) (cell s 10) (cell s 4) (cell s 0)

-- 8.6.3 d): feedback 0 becomes 2^31 - 1, in both modes
unfoldable pub mended : ℕ → ℕ
mended zero = 2 ^ 31 - 1
mended (suc n) = suc n

-- the feedback in null mode, and in INIT mode, where 31 ~ W is W without its lowest bit
unfoldable pub fed : Zuc → ℕ
fed s = mended (v s)

unfoldable pub fed_init : Zuc → ℕ
fed_init s = mended ((v s + w s / 2) % (2 ^ 31 - 1))

-- 8.6.3 e) and f): the next state, with the feedback x
unfoldable pub clocked : Zuc → ℕ → Zuc
clocked s x = record { a = shifted s.a x; r1 = next_r1 (w1 s) (w2 s); r2 = next_r2 (w1 s) (w2 s) }

-- 8.6.3: Next in null mode, and in INIT mode
unfoldable pub next : Zuc → Zuc
next s = clocked s (fed s)

unfoldable pub next_init : Zuc → Zuc
next_init s = clocked s (fed_init s)

-- 8.6.4: Strm
unfoldable pub strm : Zuc → ℕ
strm s = w s ⊕ x3 s

-- 8.6.2 a): ki || di || ivi, of 8, 15 and 8 bits
abbrev pub cell_of : ℕ → ℕ → ℕ → ℕ
cell_of k x iv = k * 2 ^ 23 + x * 2 ^ 8 + iv

abbrev pub loaded_cell : List ℕ → List ℕ → ℕ → ℕ
loaded_cell k iv i = cell_of (slice_index k i) (slice_index d i) (slice_index iv i)

unfoldable pub loaded : List ℕ → List ℕ → Zuc
loaded k iv = record { a = tab 16 (loaded_cell k iv); r1 = 0; r2 = 0 }

-- 8.6.2: Init, of a key and an IV of 16 bytes
unfoldable pub init : List ℕ → List ℕ → Zuc
init k iv = next (iter 32 next_init (loaded k iv))

-- document 01's unit: the u bytes of Strm, most significant first
abbrev pub u : ℕ
u = 4

unfoldable pub unit : Zuc → List ℕ
unit s = bytes_of (strm s)
