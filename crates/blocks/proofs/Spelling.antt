-- A block and its eight bytes: bytes make a block and a block makes them again, exclusive or goes byte by byte, and the blocks of a string stand one after the other.
-- Assumes nothing.
use mathlib.Core.Path.{◌≡◌, refl, ap, ap₂, sym, subst, ◌∙◌}
use mathlib.Core.List.{List, [], ◌∷◌, ◌++◌, append_assoc}
use Prim.Native.Nat.{ℕ, zero, suc, ◌+◌, ◌*◌, ◌/◌, ◌%◌, ◌<◌, ◌≤◌, ◌^◌}
use native.Mathlib.Nat.{zero-add, mod-lt}
use native.Mathlib.Omega.{arith}
use lib.Bits.{xor_block, xor_lt}
use lib.ListN.{length, get_or, take, drop, length-append, length-drop, get_or-append}
use lib.Pow.{high, low, shr_lt, split, pow_pos}
use lib.Seq.{take-add, get_or-append-add, get_or-drop, drop-drop, length-take-le, take_all, get_or-take}
use Rattle.words.specs.Word.{◌⊕◌, word}
use Rattle.words.specs.Lists.{All, none, more, Byte, Word, tab}
use Rattle.words.specs.Strings.{word_at, bytes_of}
use Rattle.words.proofs.Digits.{word_bytes, word-told}
use Rattle.words.proofs.Ranges.{join-word, byte_of, all_append, all-at, all-tab}
use Rattle.words.proofs.Registers.{cons, listed}
use Rattle.words.proofs.Xor.{word-xor}
use Rattle.keystream.specs.Stream.{xor_from}
use Rattle.keystream.proofs.Tables.{tab-length, tab-agree}
use Rattle.blocks.specs.Blocks.{Block, block_at, spell, blocks_of, spelled}

-- ---- tables

pub tab-snoc : (n : ℕ) (f : ℕ → ℕ) → tab (suc n) f ≡ tab n f ++ (f n ∷ [])
tab-snoc zero f = refl
tab-snoc (suc n) f = ap (λ (l : List ℕ). f 0 ∷ l) (tab-snoc n (λ i. f (suc i)))

-- ---- eight bytes

-- the block of the bytes g 0, .., g 7
abbrev pub eight : (ℕ → ℕ) → ℕ
eight g = word (g 0) (g 1) (g 2) (g 3) * 2 ^ 32 + word (g 4) (g 5) (g 6) (g 7)

abbrev pub Bytes : (ℕ → ℕ) → Type 0
Bytes g = (j : ℕ) → Byte (g j)

pub eight-same : (g h : ℕ → ℕ) → ((j : ℕ) → j < 8 → g j ≡ h j) → eight g ≡ eight h
eight-same g h e =
    λ k.
    word (e 0 (omega arith) k) (e 1 (omega arith) k) (e 2 (omega arith) k) (e 3 (omega arith) k) * 2 ^ 32
    + word (e 4 (omega arith) k) (e 5 (omega arith) k) (e 6 (omega arith) k) (e 7 (omega arith) k)

pub block-is : (s : List ℕ) (i : ℕ) → block_at s i ≡ eight (λ j. get_or s (i + j) 0)
unfolding block_at word_at
block-is s i =
    let at : (a b : ℕ) → a ≡ b → get_or s a 0 ≡ get_or s b 0 = λ a b e. ap (λ (k : ℕ). get_or s k 0) e in
    let e0 : i ≡ i + 0 = omega arith in
    let e5 : i + 4 + 1 ≡ i + 5 = omega arith in
    let e6 : i + 4 + 2 ≡ i + 6 = omega arith in
    let e7 : i + 4 + 3 ≡ i + 7 = omega arith in
    λ k.
    word (at i (i + 0) e0 k) (get_or s (i + 1) 0) (get_or s (i + 2) 0) (get_or s (i + 3) 0) * 2 ^ 32
    + word (get_or s (i + 4) 0) (at (i + 4 + 1) (i + 5) e5 k) (at (i + 4 + 2) (i + 6) e6 k) (at (i + 4 + 3) (i + 7) e7 k)

pub block_same : (s t : List ℕ) (i k : ℕ) → ((j : ℕ) → j < 8 → get_or s (i + j) 0 ≡ get_or t (k + j) 0) → block_at s i ≡ block_at t k
block_same s t i k h = block-is s i ∙ eight-same (λ j. get_or s (i + j) 0) (λ j. get_or t (k + j) 0) h ∙ sym (block-is t k)

module _ (g : ℕ → ℕ) (hg : Bytes g) where
  left_word : Word (word (g 0) (g 1) (g 2) (g 3))
  left_word = join-word (hg 0) (hg 1) (hg 2) (hg 3)

  right-word : Word (word (g 4) (g 5) (g 6) (g 7))
  right-word = join-word (hg 4) (hg 5) (hg 6) (hg 7)

  pub eight-block : Block (eight g)
  eight-block = let l = left_word in let r = right-word in joined (word (g 0) (g 1) (g 2) (g 3)) (word (g 4) (g 5) (g 6) (g 7)) l r
    where
      joined : (l r : ℕ) → l < 2 ^ 32 → r < 2 ^ 32 → l * 2 ^ 32 + r < 2 ^ 64
      joined l r hl hr = omega arith

  pub eight-xor : (h : ℕ → ℕ) → Bytes h → eight (λ j. g j ⊕ h j) ≡ eight g ⊕ eight h
  eight-xor h hh =
      sym
      (xor_block 32 (word (g 0) (g 1) (g 2) (g 3)) (word (h 0) (h 1) (h 2) (h 3)) (word (g 4) (g 5) (g 6) (g 7)) (word (h 4) (h 5) (h 6) (h 7))
      right-word (join-word (hh 4) (hh 5) (hh 6) (hh 7))
      ∙ ap₂ (λ (x y : ℕ). x * 2 ^ 32 + y) (word-xor (g 0) (h 0) (hg 1) (hg 2) (hg 3) (hh 1) (hh 2) (hh 3)) (word-xor (g 4) (h 4) (hg 5) (hg 6) (hg 7) (hh 5) (hh 6) (hh 7)))

pub spell-eight : (g : ℕ → ℕ) → Bytes g → spell (eight g) ≡ tab 8 g
unfolding spell
spell-eight g h =
    ap₂ (λ (x y : ℕ). bytes_of x ++ bytes_of y) (high (word (g 0) (g 1) (g 2) (g 3)) 32 (right-word g h)) (low (word (g 0) (g 1) (g 2) (g 3)) 32 (right-word g h))
    ∙ ap₂ ◌++◌ (word-told (g 0) (g 1) (g 2) (g 3) (h 0) (h 1) (h 2) (h 3)) (word-told (g 4) (g 5) (g 6) (g 7) (h 4) (h 5) (h 6) (h 7))

pub spell-length : (x : ℕ) → length (spell x) ≡ 8
unfolding spell bytes_of
spell-length x = refl

pub spell-bytes : (x : ℕ) → All Byte (spell x)
unfolding spell bytes_of
spell-bytes x =
    more (byte_of (x / 2 ^ 32 / 2 ^ 24)) (more (byte_of (x / 2 ^ 32 / 2 ^ 16)) (more (byte_of (x / 2 ^ 32 / 2 ^ 8)) (more (byte_of (x / 2 ^ 32))
    (more (byte_of (x % 2 ^ 32 / 2 ^ 24)) (more (byte_of (x % 2 ^ 32 / 2 ^ 16)) (more (byte_of (x % 2 ^ 32 / 2 ^ 8)) (more (byte_of (x % 2 ^ 32)) none)))))))

pub eight-spell : (x : ℕ) → Block x → eight (λ j. get_or (spell x) j 0) ≡ x
unfolding spell bytes_of
eight-spell x h =
    ap₂ (λ (l r : ℕ). l * 2 ^ 32 + r) (word_bytes (x / 2 ^ 32) (shr_lt 32 32 h)) (word_bytes (x % 2 ^ 32) (mod-lt x (pow_pos 32)))
    ∙ split x 32

-- ---- strings

-- the block at the front of what its bytes begin
pub block-front : (x : ℕ) (s : List ℕ) → Block x → block_at (spell x ++ s) 0 ≡ x
block-front x s h =
    block-is (spell x ++ s) 0
    ∙ eight-same (λ j. get_or (spell x ++ s) (0 + j) 0) (λ j. get_or (spell x) j 0)
    (λ j q. ap (λ (k : ℕ). get_or (spell x ++ s) k 0) (zero-add j) ∙ get_or-append (spell x) s 0 j (omega (arith, spell-length x)))
    ∙ eight-spell x h

pub block-past : (p s : List ℕ) (n i : ℕ) → length p ≡ n → block_at (p ++ s) (n + i) ≡ block_at s i
block-past p s n i e =
    block_same (p ++ s) s (n + i) i
    (λ j q. let k : n + i + j ≡ length p + (i + j) = omega arith in ap (λ (x : ℕ). get_or (p ++ s) x 0) k ∙ get_or-append-add p s (i + j) 0)

pub block_within : (p s : List ℕ) (i : ℕ) → i + 8 ≤ length p → block_at (p ++ s) i ≡ block_at p i
block_within p s i h = block_same (p ++ s) p i i (λ j q. get_or-append p s 0 (i + j) (omega arith))

-- the bytes of a block in a string
pub spell-at : (s : List ℕ) (i : ℕ) → All Byte s → i + 8 ≤ length s → spell (block_at s i) ≡ take 8 (drop i s)
spell-at s i h q =
    let n : length (take 8 (drop i s)) ≡ 8 = length-take-le 8 (drop i s) (omega (arith, length-drop i s)) in
    ap spell (block-is s i)
    ∙ spell-eight (λ j. get_or s (i + j) 0) (λ j. all-at (omega arith) h (i + j))
    ∙ tab-agree 8 (λ j. get_or s (i + j) 0) (λ j. get_or (take 8 (drop i s)) j 0) (λ j k. sym (get_or-take 8 (drop i s) j 0 k ∙ get_or-drop i s j 0))
    ∙ sym (listed 8 (take 8 (drop i s)) n)

pub block-range : (s : List ℕ) (i : ℕ) → All Byte s → Block (block_at s i)
block-range s i h = subst Block (sym (block-is s i)) (eight-block (λ j. get_or s (i + j) 0) (λ j. all-at (omega arith) h (i + j)))

-- ---- blocks one after the other

pub spelled-append : (a b : List ℕ) → spelled (a ++ b) ≡ spelled a ++ spelled b
spelled-append [] b = refl
spelled-append (x ∷ a) b = ap (λ (l : List ℕ). spell x ++ l) (spelled-append a b) ∙ sym (append_assoc (spell x) (spelled a) (spelled b))

pub spelled-length : (l : List ℕ) → length (spelled l) ≡ 8 * length l
spelled-length [] = refl
spelled-length (x ∷ l) =
    length-append (spell x) (spelled l) ∙ (let e : length (spell x) + length (spelled l) ≡ 8 * suc (length l) = omega (arith, spell-length x, spelled-length l) in e)

pub spelled-bytes : (l : List ℕ) → All Byte (spelled l)
spelled-bytes [] = none
spelled-bytes (x ∷ l) = all_append (spell-bytes x) (spelled-bytes l)

-- the blocks of bytes that blocks made
pub blocks-back : (l : List ℕ) → All Block l → tab (length l) (λ i. block_at (spelled l) (8 * i)) ≡ l
blocks-back [] none = refl
blocks-back (x ∷ l) (more p h) =
    cons (block-front x (spelled l) p)
    (tab-agree (length l) (λ i. block_at (spell x ++ spelled l) (8 * suc i)) (λ i. block_at (spelled l) (8 * i))
    (λ i q.
    let e : 8 * suc i ≡ 8 + 8 * i = omega arith in
    ap (block_at (spell x ++ spelled l)) e ∙ block-past (spell x) (spelled l) 8 (8 * i) (spell-length x))
    ∙ blocks-back l h)

pub blocks_of-spelled : (l : List ℕ) → All Block l → blocks_of (spelled l) ≡ l
unfolding blocks_of
blocks_of-spelled l h =
    let e : length (spelled l) / 8 ≡ length l = omega (arith, spelled-length l) in
    ap (λ (n : ℕ). tab n (λ i. block_at (spelled l) (8 * i))) e ∙ blocks-back l h

-- the bytes of the blocks from byte o on
spelled-from : (k o : ℕ) (s : List ℕ) → All Byte s → o + 8 * k ≤ length s → spelled (tab k (λ i. block_at s (o + 8 * i))) ≡ take (8 * k) (drop o s)
spelled-from zero o s h q = refl
spelled-from (suc k) o s h q =
    let e0 : o + 8 * 0 ≡ o = omega arith in
    let n : 8 * suc k ≡ 8 + 8 * k = omega arith in
    ap₂ ◌++◌ (ap (λ (x : ℕ). spell (block_at s x)) e0 ∙ spell-at s o h (omega arith))
    (ap spelled
    (tab-agree k (λ i. block_at s (o + 8 * suc i)) (λ i. block_at s (o + 8 + 8 * i))
    (λ i q. let e : o + 8 * suc i ≡ o + 8 + 8 * i = omega arith in ap (block_at s) e))
    ∙ spelled-from k (o + 8) s h (omega arith)
    ∙ ap (take (8 * k)) (sym (drop-drop 8 o s)))
    ∙ sym (take-add 8 (8 * k) (drop o s))
    ∙ ap (λ (x : ℕ). take x (drop o s)) (sym n)

-- the bytes of the first k blocks
pub spelled-front : (k : ℕ) (s : List ℕ) → All Byte s → 8 * k ≤ length s → spelled (tab k (λ i. block_at s (8 * i))) ≡ take (8 * k) s
spelled-front k s h q =
    ap spelled (tab-agree k (λ i. block_at s (8 * i)) (λ i. block_at s (0 + 8 * i)) (λ i _. ap (block_at s) (sym (zero-add (8 * i)))))
    ∙ spelled-from k 0 s h (omega arith)

pub spelled-blocks_of : (s : List ℕ) → All Byte s → length s % 8 ≡ 0 → spelled (blocks_of s) ≡ s
unfolding blocks_of
spelled-blocks_of s h e =
    let n : 8 * (length s / 8) ≡ length s = omega arith in
    spelled-front (length s / 8) s h (omega arith) ∙ take_all (8 * (length s / 8)) s (omega arith)

pub blocks_of-blocks : (s : List ℕ) → All Byte s → All Block (blocks_of s)
unfolding blocks_of
blocks_of-blocks s h = all-tab (length s / 8) (λ i. block_at s (8 * i)) (λ i _. block-range s (8 * i) h)

pub blocks_of-length : (s : List ℕ) → length (blocks_of s) ≡ length s / 8
unfolding blocks_of
blocks_of-length s = tab-length (length s / 8) (λ i. block_at s (8 * i))

-- ---- a block of text with one of keystream

-- eight bytes with those of f, one by one
eight-with : (f : ℕ → ℕ) (text : List ℕ) → 8 ≤ length text → xor_from f 0 (take 8 text) ≡ tab 8 (λ j. get_or text (0 + j) 0 ⊕ f j)
unfolding xor_from
eight-with f text h =
    let n : length (take 8 text) ≡ 8 = length-take-le 8 text h in
    ap (xor_from f 0) (listed 8 (take 8 text) n)
    ∙ tab-agree 8 (λ j. get_or (take 8 text) j 0 ⊕ f j) (λ j. get_or text (0 + j) 0 ⊕ f j)
    (λ j q. ap (λ (x : ℕ). x ⊕ f j) (get_or-take 8 text j 0 q ∙ ap (λ (i : ℕ). get_or text i 0) (sym (zero-add j))))

-- the bytes of the first block of a text with the block z
pub spell-xor : (z : ℕ) (text : List ℕ) → Block z → 8 ≤ length text → ((i : ℕ) → Byte (get_or text i 0))
    → spell (block_at text 0 ⊕ z) ≡ xor_from (λ j. get_or (spell z) j 0) 0 (take 8 text)
spell-xor z text h q bytes =
    let g : ℕ → ℕ = λ j. get_or text (0 + j) 0 in
    let k : ℕ → ℕ = λ j. get_or (spell z) j 0 in
    let hg : Bytes g = λ j. bytes (0 + j) in
    let hk : Bytes k = λ j. all-at (omega arith) (spell-bytes z) j in
    ap spell (ap₂ ◌⊕◌ (block-is text 0) (sym (eight-spell z h)) ∙ sym (eight-xor g hg k hk))
    ∙ spell-eight (λ j. g j ⊕ k j) (λ j. xor_lt 8 (g j) (k j) (hg j) (hk j))
    ∙ sym (eight-with k text q)
