-- Blocks of 64 bits and their words. A rotation moves the lower part of a block up and puts the upper part below it, so that it fits a block. The table's
-- entries are tested against SUB's list. The columns of M are turns of one another, so a turn of an entry is the part of M, its halves exchanged, from a byte in
-- another place, and the four parts add up byte by byte. From two such words F's last line is put together by moves alone: a rotation by 48 takes the halves of one
-- to the ends of a block, and the other goes between them.
-- Assumes nothing.
use mathlib.Core.Path.{◌≡◌, ap, ap₂, sym, ◌∙◌, subst}
use Prim.Native.Nat.{ℕ, ◌+◌, ◌*◌, ◌/◌, ◌%◌, ◌<◌, ◌^◌}
use native.Mathlib.Nat.{mod-lt, add-zero, mul-mod_left}
use native.Mathlib.Omega.{arith}
use lib.Arith.{digits_lt}
use lib.ListN.{get_or}
use lib.Pow.{pow-add, pow_pos, shl-shr, shr_lt, mod-pow-add, high, low}
use Rattle.words.specs.Word.{◌⊕◌, word, rotl, high as high16, low as low16, b0, b1, b2, b3}
use Rattle.words.specs.Lists.{Byte, Word}
use Rattle.words.proofs.Ranges.{at-word, byte_of, join-word}
use Rattle.words.proofs.Table.{all_under, entries}
use Rattle.words.proofs.Xor.{byte-xor, word-xor}
use Rattle.field.specs.Gf8.{mul8}
use Rattle.field.specs.Aes.{aes, sub}
use Rattle.field.specs.Tables.{sub_list}
use Rattle.field.proofs.Additive.{mul-byte}
use Rattle.field.proofs.Columns.{sub-rule, sub-byte, up1, up2, up3}
use Rattle.mugi_tables.specs.Tables.{mixing_list}
use Rattle.mugi.specs.Cipher.{left, right, rotl64, m, mixed_half, shuffled, f}

moved_up : (x j k : ℕ) → x * 2 ^ k % 2 ^ (j + k) ≡ x % 2 ^ j * 2 ^ k
moved_up x j k =
    mod-pow-add (x * 2 ^ k) j k
    ∙ ap₂ (λ (p q : ℕ). p % 2 ^ j * 2 ^ k + q) (shl-shr x k) (mul-mod_left x (2 ^ k))
    ∙ add-zero (x % 2 ^ j * 2 ^ k)

-- x <<< k has no more bits than x
pub rotated : (j k : ℕ) {x : ℕ} → x < 2 ^ (k + j) → x * 2 ^ k % 2 ^ (j + k) + x / 2 ^ j < 2 ^ (j + k)
rotated j k {x} h =
    subst (λ (n : ℕ). x * 2 ^ k % 2 ^ (j + k) + x / 2 ^ j < n) (sym (pow-add 2 j k))
    (subst (λ (n : ℕ). n + x / 2 ^ j < 2 ^ j * 2 ^ k) (sym (moved_up x j k))
    (digits_lt (mod-lt x (pow_pos j)) (shr_lt k j h)))

-- M's part from the substituted byte s in the highest place
abbrev part : ℕ → ℕ
part s = word (mul8 aes s 2) s s (mul8 aes s 3)

-- entry k of the table is the part from SUB[k]: the test reads SUB off its list
listed : ℕ → ℕ
listed k = part (get_or sub_list k 0)

listed-rule : (k : ℕ) → k < 2 ^ 8 → get_or mixing_list k 0 ≡ listed k
unfolding listed mixing_list sub_list
listed-rule k h = entries listed mixing_list tt k h

-- an entry is a word
pub entry-word : (j : ℕ) → Word (get_or mixing_list j 0)
unfolding mixing_list
entry-word = at-word (all_under 0x100000000 mixing_list tt)

entry : (x : ℕ) → get_or mixing_list (x % 2 ^ 8) 0 ≡ part (sub (x % 2 ^ 8))
unfolding listed
entry x = listed-rule (x % 2 ^ 8) (byte_of x) ∙ ap part (sub-rule (x % 2 ^ 8) (byte_of x))

-- a word turned by half is its halves exchanged
exchanged : (w : ℕ) → rotl 16 w ≡ low16 w * 2 ^ 16 + high16 w
exchanged w = ap (λ (n : ℕ). n + w / 2 ^ 16) (moved_up w 16 16)

-- M of the bytes s, t, u and v, from the parts of each
module _ (s t u v : ℕ) (hs : Byte s) (ht : Byte t) (hu : Byte u) (hv : Byte v) where
  two : {x : ℕ} → Byte x → Byte (mul8 aes x 2)
  two {x} h = mul-byte aes 8 x 2 h

  three : {x : ℕ} → Byte x → Byte (mul8 aes x 3)
  three {x} h = mul-byte aes 8 x 3 h

  -- Q0 to Q3, without what v adds
  h0 : Byte (mul8 aes s 2 ⊕ mul8 aes t 3 ⊕ u)
  h0 = byte-xor (byte-xor (two hs) (three ht)) hu

  h1 : Byte (s ⊕ mul8 aes t 2 ⊕ mul8 aes u 3)
  h1 = byte-xor (byte-xor hs (two ht)) (three hu)

  h2 : Byte (s ⊕ t ⊕ mul8 aes u 2)
  h2 = byte-xor (byte-xor hs ht) (two hu)

  h3 : Byte (mul8 aes s 3 ⊕ t ⊕ u)
  h3 = byte-xor (byte-xor (three hs) ht) hu

  m-word : Word (m s t u v)
  unfolding m
  m-word = join-word (byte-xor h0 hv) (byte-xor h1 hv) (byte-xor h2 (three hv)) (byte-xor h3 (two hv))

  parts : rotl 16 (part s) ⊕ rotl 8 (part t) ⊕ part u ⊕ rotl 24 (part v) ≡ rotl 16 (m s t u v)
  unfolding m
  parts =
      (λ i.
      up2 (mul8 aes s 2) s s (mul8 aes s 3) hs hs (three hs) i ⊕ up1 (mul8 aes t 2) t t (mul8 aes t 3) ht ht (three ht) i ⊕ part u
      ⊕ up3 (mul8 aes v 2) v v (mul8 aes v 3) hv hv (three hv) i)
      ∙ ap (λ (x : ℕ). x ⊕ part u ⊕ word (mul8 aes v 3) (mul8 aes v 2) v v) (word-xor s t (three hs) (two hs) hs ht (three ht) (two ht))
      ∙ ap (λ (x : ℕ). x ⊕ word (mul8 aes v 3) (mul8 aes v 2) v v)
      (word-xor (s ⊕ t) (mul8 aes u 2) (byte-xor (three hs) ht) (byte-xor (two hs) (three ht)) (byte-xor hs (two ht)) hu hu (three hu))
      ∙ word-xor (s ⊕ t ⊕ mul8 aes u 2) (mul8 aes v 3) h3 h0 h1 (two hv) hv hv
      ∙ sym (up2 (mul8 aes s 2 ⊕ mul8 aes t 3 ⊕ u ⊕ v) (s ⊕ mul8 aes t 2 ⊕ mul8 aes u 3 ⊕ v) (s ⊕ t ⊕ mul8 aes u 2 ⊕ mul8 aes v 3)
      (mul8 aes s 3 ⊕ t ⊕ u ⊕ mul8 aes v 2) (byte-xor h1 hv) (byte-xor h2 (three hv)) (byte-xor h3 (two hv)))

sub_of : (x : ℕ) → Byte (sub (x % 2 ^ 8))
sub_of x = sub-byte (x % 2 ^ 8) (byte_of x)

-- M with its halves exchanged, from the table
pub mixed-by : (w : ℕ)
    → rotl 16 (get_or mixing_list (b3 w) 0) ⊕ rotl 8 (get_or mixing_list (b2 w) 0) ⊕ get_or mixing_list (b1 w) 0 ⊕ rotl 24 (get_or mixing_list (b0 w) 0)
    ≡ low16 (mixed_half w) * 2 ^ 16 + high16 (mixed_half w)
unfolding mixed_half
mixed-by w =
    (λ i. rotl 16 (entry (w / 2 ^ 24) i) ⊕ rotl 8 (entry (w / 2 ^ 16) i) ⊕ entry (w / 2 ^ 8) i ⊕ rotl 24 (entry w i))
    ∙ parts (sub (b3 w)) (sub (b2 w)) (sub (b1 w)) (sub (b0 w)) (sub_of (w / 2 ^ 24)) (sub_of (w / 2 ^ 16)) (sub_of (w / 2 ^ 8)) (sub_of w)
    ∙ exchanged (mixed_half w)

pub mixed-word : (w : ℕ) → Word (mixed_half w)
unfolding mixed_half
mixed-word w = m-word (sub (b3 w)) (sub (b2 w)) (sub (b1 w)) (sub (b0 w)) (sub_of (w / 2 ^ 24)) (sub_of (w / 2 ^ 16)) (sub_of (w / 2 ^ 8)) (sub_of w)

-- F's last line, of the two words with their halves exchanged
joined : (a b c d : ℕ) → a * 2 ^ 48 + (b * 2 ^ 16 + c) * 2 ^ 16 + d ≡ (a * 2 ^ 16 + b) * 2 ^ 32 + (c * 2 ^ 16 + d)
joined a b c d = omega arith

upper-half : {w : ℕ} → Word w → w / 2 ^ 16 < 2 ^ 16
upper-half {w} h = shr_lt 16 16 h

-- y between the halves of x, where z is x <<< 48
pub between : (x y z : ℕ) → z ≡ rotl64 48 x → z + y * 2 ^ 16 ≡ x % 2 ^ 16 * 2 ^ 48 + y * 2 ^ 16 + x / 2 ^ 16
between x y z e = omega (arith, moved_up x 16 48)

three-parts : {a y b : ℕ} → a < 2 ^ 16 → Word y → b < 2 ^ 16 → a * 2 ^ 48 + y * 2 ^ 16 + b < 2 ^ 64
three-parts ha hy hb = omega arith

pub between-fits : (x y z : ℕ) → Word x → Word y → z ≡ rotl64 48 x → z + y * 2 ^ 16 < 2 ^ 64
between-fits x y z hx hy e = subst (λ (n : ℕ). n < 2 ^ 64) (sym (between x y z e)) (three-parts (mod-lt x (pow_pos 16)) hy (upper-half hx))

pub f-by : (x l r : ℕ) → l ≡ low16 (mixed_half (left x)) * 2 ^ 16 + high16 (mixed_half (left x)) → r ≡ low16 (mixed_half (right x)) * 2 ^ 16 + high16 (mixed_half (right x))
    → r % 2 ^ 16 * 2 ^ 48 + l * 2 ^ 16 + r / 2 ^ 16 ≡ f x
unfolding f shuffled
f-by x l r el er =
    let h : high16 (mixed_half (right x)) < 2 ^ 16 = upper-half (mixed-word (right x)) in
    ap₂ (λ (p q : ℕ). p % 2 ^ 16 * 2 ^ 48 + q * 2 ^ 16 + p / 2 ^ 16) er el
    ∙ ap₂ (λ (p q : ℕ). p * 2 ^ 48 + (low16 (mixed_half (left x)) * 2 ^ 16 + high16 (mixed_half (left x))) * 2 ^ 16 + q) (low (low16 (mixed_half (right x))) 16 h) (high (low16 (mixed_half (right x))) 16 h)
    ∙ joined (high16 (mixed_half (right x))) (low16 (mixed_half (left x))) (high16 (mixed_half (left x))) (low16 (mixed_half (right x)))
