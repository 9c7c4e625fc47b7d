-- SNOW 2.0's states stay in range: products in the field and T are words, and sums and exclusive ors of words are words.
-- Assumes nothing.
use Rattle.std.proofs.Common.{◌≡◌, ℕ, List, length, get_or, refl, arith, lit<}
use Rattle.words.specs.Word.{not32}
use Rattle.words.specs.Strings.{four_at, bytes_of}
use Rattle.words.specs.Lists.{All, none, more, Byte, Word}
use Rattle.words.proofs.Ranges.{at-word, all-tab, all-shifted, length-shifted, iter-keeps, xor-word, add-word, four_at-words, bytes_of-bytes}
use Rattle.field.proofs.Elements.{times-word}
use Rattle.field.proofs.Columns.{fn_t-word}
use Rattle.snow2_tables.specs.Tables.{field, alpha_inv}
use Rattle.snow2.specs.Cipher.{cell, f, fed, clocked, next, next_init, strm, cells, nots, loaded128, loaded256, started, init128, init256, unit, u}
use Rattle.snow2.specs.Range.{InRange}
use Rattle.snow2.specs.declared.Snow2.{Snow2}
use Rattle.field.specs.Gf32.{alpha}

clocked-range : (s : Snow2) (x : ℕ) → InRange s → Word x → InRange (clocked s x)
unfolding clocked
clocked-range s x h k =
    record {
      sixteen = length-shifted 15 s.s x h.sixteen;
      cells = all-shifted h.cells k;
      r1-word = add-word s.r2 (cell s 5);
      r2-word = fn_t-word s.r1;
    }

fed-word : (s : Snow2) → InRange s → Word (fed s)
unfolding fed
fed-word s h = xor-word (xor-word (times-word field alpha (cell s 0)) (at-word h.cells 2)) (times-word field alpha_inv (cell s 11))

f-word : (s : Snow2) → InRange s → Word (f s)
unfolding f
f-word s h = xor-word (add-word (cell s 15) s.r1) h.r2-word

pub next-range : (s : Snow2) → InRange s → InRange (next s)
unfolding next
next-range s h = clocked-range s (fed s) h (fed-word s h)

pub next_init-range : (s : Snow2) → InRange s → InRange (next_init s)
unfolding next_init
next_init-range s h = clocked-range s _ h (xor-word (fed-word s h) (f-word s h))

module _ {a b c d v : List ℕ} (ha : All Word a) (hb : All Word b) (hc : All Word c) (hd : All Word d) (hv : All Word v) where
  cells-words : All Word (cells a b c d v)
  unfolding cells
  cells-words =
      more (at-word hd 3) (more (at-word hd 2) (more (at-word hd 1) (more (at-word hd 0)
      (more (at-word hc 3) (more (at-word hc 2) (more (at-word hc 1) (more (at-word hc 0)
      (more (at-word hb 3) (more (xor-word (at-word hb 2) (at-word hv 0)) (more (xor-word (at-word hb 1) (at-word hv 1)) (more (at-word hb 0)
      (more (xor-word (at-word ha 3) (at-word hv 2)) (more (at-word ha 2) (more (at-word ha 1) (more (xor-word (at-word ha 0) (at-word hv 3))
      none)))))))))))))))

nots-words : (k : List ℕ) → All Word (nots k)
unfolding nots
nots-words k = all-tab 4 (λ i. not32 (get_or k i 0)) (λ i q. omega arith)

started-range : (s : Snow2) → InRange s → InRange (started s)
unfolding started
started-range s h = next-range _ (iter-keeps InRange next_init next_init-range 32 s h)

module _ (k iv : List ℕ) (hk : All Byte k) (hv : All Byte iv) where
  loaded128-range : InRange (loaded128 k iv)
  unfolding loaded128 cells
  loaded128-range =
      record {
        sixteen = refl;
        cells = cells-words (four_at-words hk 0) (nots-words (four_at k 0)) (four_at-words hk 0) (nots-words (four_at k 0)) (four_at-words hv 0);
        r1-word = lit< tt;
        r2-word = lit< tt;
      }

  loaded256-range : InRange (loaded256 k iv)
  unfolding loaded256 cells
  loaded256-range =
      record {
        sixteen = refl;
        cells = cells-words (four_at-words hk 0) (four_at-words hk 16) (nots-words (four_at k 0)) (nots-words (four_at k 16)) (four_at-words hv 0);
        r1-word = lit< tt;
        r2-word = lit< tt;
      }

  -- S(0) is in range, whatever bytes key and IV are
  pub init128-range : InRange (init128 k iv)
  unfolding init128
  init128-range = started-range (loaded128 k iv) loaded128-range

  pub init256-range : InRange (init256 k iv)
  unfolding init256
  init256-range = started-range (loaded256 k iv) loaded256-range

-- a unit is u bytes
pub unit-length : (s : Snow2) → length (unit s) ≡ u
unfolding unit bytes_of
unit-length s = refl

pub unit-bytes : (s : Snow2) → All Byte (unit s)
unfolding unit
unit-bytes s = bytes_of-bytes (strm s)
