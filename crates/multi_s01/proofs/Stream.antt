-- Z_i by its bytes, and a text crypted block by block: bytes are XORed one by one, and so are the blocks that they make.
-- Assumes nothing.
use mathlib.Core.Path.{◌≡◌, ap, ap₂, sym, subst, ◌∙◌}
use mathlib.Core.List.{List, [], ◌∷◌}
use Prim.Native.Nat.{ℕ, zero, suc, ◌+◌, ◌*◌, ◌/◌, ◌<◌, ◌≤◌}
use native.Mathlib.Nat.{add-zero, zero-add, not-suc-le-zero, le_of_suc-le-suc}
use native.Mathlib.Omega.{arith}
use lib.Bits.{bit_xor}
use lib.ListN.{length, get_or}
use Rattle.words.specs.Word.{◌⊕◌}
use Rattle.words.specs.Lists.{All, Byte, tab}
use Rattle.words.proofs.Ranges.{all-at}
use Rattle.keystream.specs.Stream.{xor_from}
use Rattle.keystream.proofs.Tables.{get_d-tab}
use Rattle.blocks.specs.Blocks.{Block, block_at, blocks_of}
use Rattle.blocks.proofs.Spelling.{eight, Bytes, eight-same, block-is, eight-block, eight-xor}
use Rattle.multi_s01.specs.Stream.{block_of}

-- Z_i by its bytes
pub block_of-is : (f : ℕ → ℕ) (i : ℕ) → block_of f i ≡ eight (λ j. f (8 * i + j))
unfolding block_of
block_of-is f i =
    block-is (tab 8 (λ j. f (8 * i + j))) 0
    ∙ eight-same (λ j. get_or (tab 8 (λ j. f (8 * i + j))) (0 + j) 0) (λ j. f (8 * i + j))
    (λ j q. ap (λ (k : ℕ). get_or (tab 8 (λ j. f (8 * i + j))) k 0) (zero-add j) ∙ get_d-tab 8 (λ j. f (8 * i + j)) j q)

pub block_of-range : (f : ℕ → ℕ) → Bytes f → (i : ℕ) → Block (block_of f i)
block_of-range f h i = subst Block (sym (block_of-is f i)) (eight-block (λ j. f (8 * i + j)) (λ j. h (8 * i + j)))

get_d-xor_from : (f : ℕ → ℕ) (n : ℕ) (s : List ℕ) (j : ℕ) → j < length s → get_or (xor_from f n s) j 0 ≡ get_or s j 0 ⊕ f (n + j)
unfolding xor_from
get_d-xor_from f n [] j q = absurd (not-suc-le-zero q)
get_d-xor_from f n (d ∷ s) zero q = ap (λ (k : ℕ). d ⊕ f k) (sym (add-zero n))
get_d-xor_from f n (d ∷ s) (suc j) q =
    let e : suc n + j ≡ n + suc j = omega arith in
    get_d-xor_from f (suc n) s j (le_of_suc-le-suc q) ∙ ap (λ (k : ℕ). get_or s j 0 ⊕ f k) e

-- block i of a text crypted from block m on
pub crypt-block : (f : ℕ → ℕ) (m : ℕ) (s : List ℕ) (i : ℕ) → All Byte s → Bytes f → 8 * i + 8 ≤ length s
    → block_at (xor_from f (8 * m) s) (8 * i) ≡ block_at s (8 * i) ⊕ block_of f (m + i)
crypt-block f m s i hs hf q =
    block-is (xor_from f (8 * m) s) (8 * i)
    ∙ eight-same (λ j. get_or (xor_from f (8 * m) s) (8 * i + j) 0) (λ j. get_or s (8 * i + j) 0 ⊕ f (8 * (m + i) + j))
    (λ j k.
    let e : 8 * m + (8 * i + j) ≡ 8 * (m + i) + j = omega arith in
    get_d-xor_from f (8 * m) s (8 * i + j) (omega arith) ∙ ap (λ (x : ℕ). get_or s (8 * i + j) 0 ⊕ f x) e)
    ∙ eight-xor (λ j. get_or s (8 * i + j) 0) (λ j. all-at (omega arith) hs (8 * i + j)) (λ j. f (8 * (m + i) + j)) (λ j. hf (8 * (m + i) + j))
    ∙ ap₂ bit_xor (sym (block-is s (8 * i))) (sym (block_of-is f (m + i)))

-- block k of a string
pub block-of : (x : List ℕ) (k : ℕ) → k < length x / 8 → get_or (blocks_of x) k 0 ≡ block_at x (8 * k)
unfolding blocks_of
block-of x k q = get_d-tab (length x / 8) (λ i. block_at x (8 * i)) k q
