-- MUGI's states stay in range: M makes words of bytes, the shuffled halves of two words make a block, and rotations and exclusive ors of blocks are blocks.
-- Assumes nothing.
use mathlib.Core.Path.{◌≡◌, refl, ap}
use mathlib.Core.List.{List, []}
use Prim.Native.Nat.{ℕ, zero, suc, ◌+◌, ◌*◌, ◌/◌, ◌<◌, ◌^◌}
use native.Mathlib.Nat.{mod-lt}
use native.Mathlib.Omega.{arith}
use lib.Bits.{xor_lt}
use lib.Dec.{lit<}
use lib.ListN.{length}
use Rattle.words.specs.Word.{◌⊕◌}
use Rattle.words.specs.Strings.{bytes_of}
use Rattle.words.specs.Lists.{All, none, more, iter, Byte, Word}
use Rattle.words.proofs.Ranges.{all-at, all_append, iter-keeps, word_at-word, bytes_of-bytes}
use Rattle.mugi.specs.declared.Mugi.{Mugi}
use Rattle.mugi.specs.Cipher.{left, right, block, rotl64, block_at, cell, mixed_half, shuffled, f, rho1, lambda1, next, strm, spread, turned, filled, keyed, added, with_iv, init, unit, u}
use Rattle.mugi.specs.Range.{Block, InRange}
use Rattle.mugi.proofs.Blocks.{rotated, mixed-word}

xor_block : {a b : ℕ} → Block a → Block b → Block (a ⊕ b)
xor_block {a} {b} ha hb = xor_lt 64 a b ha hb

block-of : {l r : ℕ} → Word l → Word r → Block (block l r)
block-of hl hr = omega arith

at_block : {s : List ℕ} → All Block s → (i : ℕ) → Block (cell s i)
at_block h i = all-at (lit< tt) h i

half-word : {h l : ℕ} → h < 2 ^ 16 → l < 2 ^ 16 → Word (h * 2 ^ 16 + l)
half-word p q = omega arith

upper : {w : ℕ} → Word w → w / 2 ^ 16 < 2 ^ 16
upper h = omega arith

f-block : (x : ℕ) → Block (f x)
unfolding f shuffled
f-block x =
    block-of
    (half-word (upper (mixed-word (right x))) (mod-lt (mixed_half (left x)) (lit< tt)))
    (half-word (upper (mixed-word (left x))) (mod-lt (mixed_half (right x)) (lit< tt)))

rho1-blocks : {a : List ℕ} (w1 w2 : ℕ) → All Block a → All Block (rho1 a w1 w2)
unfolding rho1
rho1-blocks {a} w1 w2 h =
    more (at_block h 1)
    (more (xor_block (xor_block (at_block h 2) (f-block (cell a 1 ⊕ w1))) (lit< tt))
    (more (xor_block (xor_block (at_block h 0) (f-block (cell a 1 ⊕ rotl64 17 w2))) (lit< tt)) none))

lambda1-blocks : {b : List ℕ} {x : ℕ} → All Block b → Block x → All Block (lambda1 b x)
unfolding lambda1
lambda1-blocks {b} h hx =
    more (xor_block (at_block h 15) hx) (more (at_block h 0) (more (at_block h 1) (more (at_block h 2)
    (more (xor_block (at_block h 3) (at_block h 7)) (more (at_block h 4) (more (at_block h 5) (more (at_block h 6) (more (at_block h 7) (more (at_block h 8)
    (more (xor_block (at_block h 9) (rotated 32 32 (at_block h 13))) (more (at_block h 10) (more (at_block h 11) (more (at_block h 12)
    (more (at_block h 13) (more (at_block h 14) none)))))))))))))))

pub next-range : (s : Mugi) → InRange s → InRange (next s)
unfolding next rho1 lambda1
next-range s h =
    record {
      three = refl;
      sixteen = refl;
      cells-a = rho1-blocks (cell s.b 4) (cell s.b 10) h.cells-a;
      cells-b = lambda1-blocks h.cells-b (at_block h.cells-a 0);
    }

block_at-block : {s : List ℕ} → All Byte s → (i : ℕ) → Block (block_at s i)
unfolding block_at
block_at-block h i = block-of (word_at-word h i) (word_at-word h (i + 4))

spread-blocks : {k : List ℕ} → All Byte k → All Block (spread k)
unfolding spread
spread-blocks h =
    more (block_at-block h 0)
    (more (block_at-block h 8)
    (more (xor_block (xor_block (rotated 57 7 (block_at-block h 0)) (rotated 7 57 (block_at-block h 8))) (lit< tt)) none))

turned-blocks : (a : List ℕ) → All Block a → All Block (turned a)
unfolding turned
turned-blocks a h = rho1-blocks 0 0 h

-- what the turns that fill b keep
record Blocks (s : Mugi) : Type 0 where
  in-a : All Block s.a
  in_b : All Block s.b

filled-blocks : (s : Mugi) → Blocks s → Blocks (filled s)
unfolding filled
filled-blocks s h =
    let t = turned-blocks s.a h.in-a in
    record { in-a = t; in_b = more (at_block t 0) h.in_b }

filled-length : (n : ℕ) (a : List ℕ) → length (iter n filled (record { a = a; b = [] })).b ≡ n
unfolding iter filled
filled-length zero a = refl
filled-length (suc n) a = ap suc (filled-length n a)

module _ (k iv : List ℕ) (hk : All Byte k) (hv : All Byte iv) where
  keyed-blocks : Blocks (keyed k)
  unfolding keyed
  keyed-blocks =
      iter-keeps Blocks filled filled-blocks 16 (record { a = spread k; b = [] }) (record { in-a = spread-blocks hk; in_b = none })

  added-blocks : {a v : List ℕ} → All Block a → All Block v → All Block (added a v)
  unfolding added
  added-blocks p q =
      more (xor_block (at_block p 0) (at_block q 0)) (more (xor_block (at_block p 1) (at_block q 1)) (more (xor_block (at_block p 2) (at_block q 2)) none))

  turns-three : (n : ℕ) (a : List ℕ) → length (iter (suc n) turned a) ≡ 3
  unfolding iter turned rho1
  turns-three n a = refl

  with_iv-range : InRange (with_iv (keyed k) iv)
  unfolding with_iv keyed
  with_iv-range =
      record {
        three = turns-three 15 (added (keyed k).a (spread iv));
        sixteen = filled-length 16 (spread k);
        cells-a = iter-keeps (All Block) turned turned-blocks 16 (added (keyed k).a (spread iv)) (added-blocks keyed-blocks.in-a (spread-blocks hv));
        cells-b = keyed-blocks.in_b;
      }

  -- S(0) is in range, whatever bytes key and IV are
  pub init-range : InRange (init k iv)
  unfolding init
  init-range = iter-keeps InRange next next-range 16 (with_iv (keyed k) iv) with_iv-range

-- a unit is u bytes
pub unit-length : (s : Mugi) → length (unit s) ≡ u
unfolding unit bytes_of
unit-length s = refl

pub unit-bytes : (s : Mugi) → All Byte (unit s)
unfolding unit
unit-bytes s = all_append (bytes_of-bytes (left (strm s))) (bytes_of-bytes (right (strm s)))
