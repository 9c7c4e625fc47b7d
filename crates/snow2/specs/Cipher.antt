-- SNOW 2.0 (document 000, 8.2, in document 01's readings). A state is the struct's record: s is s0..s15 (the clause's a0..a15), r1 is R1 (b1), r2 is
-- R2 (b2).
-- Assumes nothing.
use Rattle.std.specs.Prelude.{ℕ, List, [], ◌∷◌, slice_index, slice_index_or}
use Rattle.words.specs.Word.{◌⊕◌, ◌+₃₂◌, not32}
use Rattle.words.specs.Strings.{four_at, bytes_of}
use Rattle.words.specs.Lists.{tab, shifted, iter}
use Rattle.field.specs.Gf32.{times, alpha}
use Rattle.field.specs.Aes.{fn_t}
use Rattle.snow2_tables.specs.Tables.{field, alpha_inv}
use Rattle.snow2.specs.declared.Snow2.{Snow2}

-- si
abbrev pub cell : Snow2 → ℕ → ℕ
cell s i = slice_index s.s i

-- 8.2.8: FSM
abbrev pub fsm : ℕ → ℕ → ℕ → ℕ
fsm x y z = (x +₃₂ y) ⊕ z

-- F of document 01
unfoldable pub f : Snow2 → ℕ
f s = fsm (cell s 15) s.r1 s.r2

-- 8.2.3 d), with the products of 8.2.6 and 8.2.7: the word that comes in, in null mode; in INIT mode F is added
unfoldable pub fed : Snow2 → ℕ
fed s = times field alpha (cell s 0) ⊕ cell s 2 ⊕ times field alpha_inv (cell s 11)

-- 8.2.3 a) to c) and e): the next state, with the word x
unfoldable pub clocked : Snow2 → ℕ → Snow2
clocked s x = record { s = shifted s.s x; r1 = s.r2 +₃₂ cell s 5; r2 = fn_t s.r1 }

-- 8.2.3: Next in null mode, and in INIT mode
unfoldable pub next : Snow2 → Snow2
next s = clocked s (fed s)

unfoldable pub next_init : Snow2 → Snow2
next_init s = clocked s (fed s ⊕ f s)

-- 8.2.4: Strm
unfoldable pub strm : Snow2 → ℕ
strm s = f s ⊕ cell s 0

-- 8.2.2 a) and b): s15..s12 are the words of a, first to last, s11..s8 those of b, s7..s4 of c and s3..s0 of d; those of the IV go to s9, s10, s12 and s15
unfoldable pub cells : (a b c d v : List ℕ) → List ℕ
cells a b c d v =
    slice_index d 3 ∷ slice_index d 2 ∷ slice_index d 1 ∷ slice_index d 0 ∷ slice_index c 3 ∷ slice_index c 2 ∷ slice_index c 1 ∷ slice_index c 0
    ∷ slice_index b 3 ∷ slice_index_or b 2 0 ⊕ slice_index_or v 0 0 ∷ slice_index_or b 1 0 ⊕ slice_index_or v 1 0 ∷ slice_index b 0
    ∷ slice_index_or a 3 0 ⊕ slice_index_or v 2 0 ∷ slice_index a 2 ∷ slice_index a 1 ∷ slice_index_or a 0 0 ⊕ slice_index_or v 3 0 ∷ []

-- the complements of four words
unfoldable pub nots : List ℕ → List ℕ
nots k = tab 4 (λ i. not32 (slice_index k i))

-- a key of 16 bytes: its words, their complements, and the same again
unfoldable pub loaded128 : List ℕ → List ℕ → Snow2
loaded128 k iv = record {
  s = cells (four_at k 0) (nots (four_at k 0)) (four_at k 0) (nots (four_at k 0)) (four_at iv 0);
  r1 = 0;
  r2 = 0;
}

-- a key of 32 bytes: its words, and their complements
unfoldable pub loaded256 : List ℕ → List ℕ → Snow2
loaded256 k iv = record {
  s = cells (four_at k 0) (four_at k 16) (nots (four_at k 0)) (nots (four_at k 16)) (four_at iv 0);
  r1 = 0;
  r2 = 0;
}

-- 8.2.2 c) and d): S(0) of a loaded state
unfoldable pub started : Snow2 → Snow2
started s = next (iter 32 next_init s)

-- 8.2.2: Init, of a key of 16 bytes, or of 32, and an IV of 16
unfoldable pub init128 : List ℕ → List ℕ → Snow2
init128 k iv = started (loaded128 k iv)

unfoldable pub init256 : List ℕ → List ℕ → Snow2
init256 k iv = started (loaded256 k iv)

-- document 01's unit: the u bytes of Strm, most significant first
abbrev pub u : ℕ
u = 4

unfoldable pub unit : Snow2 → List ℕ
unit s = bytes_of (strm s)
