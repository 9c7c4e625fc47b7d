-- MUGI (document 000, 8.1). A state is the struct's record: a is a0..a2 and b is b0..b15, each a block of 64 bits.
-- Assumes nothing.
use Rattle.std.specs.Prelude.{List, [], ◌∷◌, ◌++◌, ℕ, ◌+◌, ◌*◌, ◌/◌, ◌%◌, ◌-◌, ◌^◌, get_or}
use Rattle.words.specs.Word.{◌⊕◌, ◌∥◌, word, high, low, b0, b1, b2, b3}
use Rattle.words.specs.Strings.{bytes_of}
use Rattle.words.specs.Lists.{iter}
use Rattle.field.specs.Gf8.{mul8}
use Rattle.field.specs.Aes.{aes, sub}
use Rattle.mugi.specs.declared.Mugi.{Mugi}
pub use Rattle.blocks.specs.Blocks.{block, left, right}
unfoldable pub use Rattle.blocks.specs.Blocks.{block_at}

-- x <<< k of 64 bits, for k from 1 to 63; x >>> k is x <<< (64 - k)
abbrev pub rotl64 : ℕ → ℕ → ℕ
rotl64 k x = (x * 2 ^ k) % 2 ^ 64 + x / 2 ^ (64 - k)

abbrev pub rotr64 : ℕ → ℕ → ℕ
rotr64 k x = rotl64 (64 - k) x

-- block j of a or of b
abbrev pub cell : List ℕ → ℕ → ℕ
cell l j = get_or l j 0

-- 8.1.1: D0, D1 and D2
abbrev pub d0 : ℕ
d0 = 0x6a09e667f3bcc908

abbrev pub d1 : ℕ
d1 = 0xbb67ae8584caa73b

abbrev pub d2 : ℕ
d2 = 0x3c6ef372fe94f82b

-- 8.1.9: M, of four bytes
unfoldable pub m : (x0 x1 x2 x3 : ℕ) → ℕ
m x0 x1 x2 x3 =
    word
    (mul8 aes x0 2 ⊕ mul8 aes x1 3 ⊕ x2 ⊕ x3)
    (x0 ⊕ mul8 aes x1 2 ⊕ mul8 aes x2 3 ⊕ x3)
    (x0 ⊕ x1 ⊕ mul8 aes x2 2 ⊕ mul8 aes x3 3)
    (mul8 aes x0 3 ⊕ x1 ⊕ x2 ⊕ mul8 aes x3 2)

-- 8.1.7, of half a block: M of what S_R, which is SUB, makes of its bytes
unfoldable pub mixed_half : ℕ → ℕ
mixed_half w = m (sub (b3 w)) (sub (b2 w)) (sub (b1 w)) (sub (b0 w))

-- 8.1.7, its last line: Q4 Q5 Q2 Q3 Q0 Q1 Q6 Q7, of QL = Q0 Q1 Q2 Q3 and QR = Q4 Q5 Q6 Q7
unfoldable pub shuffled : ℕ → ℕ → ℕ
shuffled l r = block (high r ∥ low l) (high l ∥ low r)

-- 8.1.7: F, of X' = X ⊕ T
unfoldable pub f : ℕ → ℕ
f x = shuffled (mixed_half (left x)) (mixed_half (right x))

-- 8.1.5: ρ1
unfoldable pub rho1 : List ℕ → (w1 w2 : ℕ) → List ℕ
rho1 a w1 w2 = cell a 1 ∷ cell a 2 ⊕ f (cell a 1 ⊕ w1) ⊕ d1 ∷ cell a 0 ⊕ f (cell a 1 ⊕ rotl64 17 w2) ⊕ d2 ∷ []

-- 8.1.6: λ1
unfoldable pub lambda1 : List ℕ → ℕ → List ℕ
lambda1 b x =
    cell b 15 ⊕ x ∷ cell b 0 ∷ cell b 1 ∷ cell b 2 ∷ cell b 3 ⊕ cell b 7 ∷ cell b 4 ∷ cell b 5 ∷ cell b 6 ∷ cell b 7 ∷ cell b 8
    ∷ cell b 9 ⊕ rotl64 32 (cell b 13) ∷ cell b 10 ∷ cell b 11 ∷ cell b 12 ∷ cell b 13 ∷ cell b 14 ∷ []

-- 8.1.3: Next
unfoldable pub next : Mugi → Mugi
next s = record { a = rho1 s.a (cell s.b 4) (cell s.b 10); b = lambda1 s.b (cell s.a 0) }

-- 8.1.4: Strm
unfoldable pub strm : Mugi → ℕ
strm s = cell s.a 2

-- 8.1.2 a) and d): three blocks of a key or an IV
unfoldable pub spread : List ℕ → List ℕ
spread k = block_at k 0 ∷ block_at k 8 ∷ rotl64 7 (block_at k 0) ⊕ rotr64 7 (block_at k 8) ⊕ d0 ∷ []

-- 8.1.2 b) and e): a turn of ρ1, without b
unfoldable pub turned : List ℕ → List ℕ
turned a = rho1 a 0 0

-- 8.1.2 b) and c): a turn, whose a0 comes before those of the turns before it, so that after sixteen b0 is a0 of the last turn and b15 of the first
unfoldable pub filled : Mugi → Mugi
filled s = record { a = turned s.a; b = cell (turned s.a) 0 ∷ s.b }

-- 8.1.2 a) to c)
unfoldable pub keyed : List ℕ → Mugi
keyed k = iter 16 filled (record { a = spread k; b = [] })

-- 8.1.2 d): v, the blocks of an IV, added to a
unfoldable pub added : (a v : List ℕ) → List ℕ
added a v = cell a 0 ⊕ cell v 0 ∷ cell a 1 ⊕ cell v 1 ∷ cell a 2 ⊕ cell v 2 ∷ []

-- 8.1.2 d) to f)
unfoldable pub with_iv : Mugi → List ℕ → Mugi
with_iv s iv = record { a = iter 16 turned (added s.a (spread iv)); b = s.b }

-- 8.1.2: Init, of a key and an IV of 16 bytes
unfoldable pub init : List ℕ → List ℕ → Mugi
init k iv = iter 16 next (with_iv (keyed k) iv)

-- document 01's unit: the u bytes of Strm, most significant first
abbrev pub u : ℕ
u = 8

unfoldable pub unit : Mugi → List ℕ
unit s = bytes_of (left (strm s)) ++ bytes_of (right (strm s))
