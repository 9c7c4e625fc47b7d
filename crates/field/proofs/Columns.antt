-- T by one table of 256 words. The S-box is tested against its definition, and the table against the S-box's list; a rotation by whole bytes moves an
-- entry's bytes to the places that the part from a higher byte has; and the four parts add up byte by byte, since the S-box and its products are bytes.
-- Assumes nothing.
use mathlib.Core.Path.{◌≡◌, refl, ap, ap₂, sym, ◌∙◌, subst}
use Prim.Native.Nat.{ℕ, zero, suc, ◌+◌, ◌*◌, ◌/◌, ◌%◌, ◌<◌, ◌^◌}
use native.Mathlib.Nat.{add-mul, mul_assoc}
use native.Mathlib.Omega.{arith}
use lib.Bits.{bit_xor}
use lib.Dec.{lit<}
use lib.ListN.{get_or}
use lib.Pow.{pow-add, shl_lt, high, low}
use Rattle.words.specs.Word.{◌⊕◌, word, rotl, b0, b1, b2, b3}
use Rattle.words.specs.Lists.{All, Byte, Word}
use Rattle.words.proofs.Table.{entries, all_under}
use Rattle.words.proofs.Ranges.{all-at, byte_of, join-word}
use Rattle.words.proofs.Xor.{byte-xor, word-xor}
use Rattle.field.specs.Gf8.{mul8, squares}
use Rattle.field.specs.Aes.{aes, sub, mix, fn_t}
use Rattle.field.specs.Tables.{sub_list, column_list}
use Rattle.field.proofs.Additive.{mul-byte}

-- entry k of the table is SUB[k]
pub sub-rule : (k : ℕ) → k < 2 ^ 8 → get_or sub_list k 0 ≡ sub k
unfolding sub_list sub squares
sub-rule k h = entries sub sub_list tt k h

sub-bytes : All Byte sub_list
unfolding sub_list
sub-bytes = all_under 256 sub_list tt

pub sub-byte : (k : ℕ) → k < 2 ^ 8 → Byte (sub k)
sub-byte k h = subst Byte (sub-rule k h) (all-at (lit< tt) sub-bytes k)

-- the part of T from the substituted byte s in place j
abbrev pub column : ℕ → ℕ → ℕ
column zero s = word (mul8 aes s 3) s s (mul8 aes s 2)
column (suc zero) s = word s s (mul8 aes s 2) (mul8 aes s 3)
column (suc (suc zero)) s = word s (mul8 aes s 2) (mul8 aes s 3) s
column (suc (suc (suc j))) s = word (mul8 aes s 2) (mul8 aes s 3) s s

-- x moved up by j bytes, those that leave coming in below
abbrev pub turned : ℕ → ℕ → ℕ
turned zero x = x
turned (suc zero) x = rotl 8 x
turned (suc (suc zero)) x = rotl 16 x
turned (suc (suc (suc j))) x = rotl 24 x

-- entry k of the table is the part from SUB[k] in the lowest place: the test reads SUB off its list
listed : ℕ → ℕ
listed k = column 0 (get_or sub_list k 0)

listed-rule : (k : ℕ) → k < 2 ^ 8 → get_or column_list k 0 ≡ listed k
unfolding listed column_list sub_list
listed-rule k h = entries listed column_list tt k h

-- m digits and k more, exchanged
exchanged : (k m h l : ℕ) → l < 2 ^ m → (h * 2 ^ m + l) * 2 ^ k % 2 ^ (m + k) + (h * 2 ^ m + l) / 2 ^ m ≡ l * 2 ^ k + h
exchanged k m h l i =
    ap₂ ◌+◌
    (ap (λ (x : ℕ). x % 2 ^ (m + k))
    (add-mul (h * 2 ^ m) l (2 ^ k) ∙ ap (λ (x : ℕ). x + l * 2 ^ k) (mul_assoc h (2 ^ m) (2 ^ k) ∙ ap (λ (x : ℕ). h * x) (sym (pow-add 2 m k))))
    ∙ low h (m + k) (shl_lt m k i)) (high h m i)

-- the part in the lowest place, turned, is the part in place j
module _ (a b c d : ℕ) (hb : Byte b) (hc : Byte c) (hd : Byte d) where
  pub up1 : rotl 8 (word a b c d) ≡ word b c d a
  up1 = ap (rotl 8) {y = a * 2 ^ 24 + ((b * 2 ^ 8 + c) * 2 ^ 8 + d)} (omega arith) ∙ exchanged 8 24 a ((b * 2 ^ 8 + c) * 2 ^ 8 + d) (omega arith)

  pub up2 : rotl 16 (word a b c d) ≡ word c d a b
  up2 =
      ap (rotl 16) {y = (a * 2 ^ 8 + b) * 2 ^ 16 + (c * 2 ^ 8 + d)} (omega arith) ∙ exchanged 16 16 (a * 2 ^ 8 + b) (c * 2 ^ 8 + d) (omega arith) ∙ omega arith

  pub up3 : rotl 24 (word a b c d) ≡ word d a b c
  up3 = exchanged 24 8 ((a * 2 ^ 8 + b) * 2 ^ 8 + c) d hd ∙ omega arith

turned-part : (j s : ℕ) → j < 4 → Byte s → turned j (column 0 s) ≡ column j s
turned-part zero s i h = refl
turned-part (suc zero) s i h = up1 (mul8 aes s 3) s s (mul8 aes s 2) h h (mul-byte aes 8 s 2 h)
turned-part (suc (suc zero)) s i h = up2 (mul8 aes s 3) s s (mul8 aes s 2) h h (mul-byte aes 8 s 2 h)
turned-part (suc (suc (suc zero))) s i h = up3 (mul8 aes s 3) s s (mul8 aes s 2) h h (mul-byte aes 8 s 2 h)
turned-part (suc (suc (suc (suc j)))) s i h = absurd (omega arith)

column-rule : (j k : ℕ) → j < 4 → k < 2 ^ 8 → turned j (get_or column_list k 0) ≡ column j (sub k)
unfolding listed
column-rule j k hj hk = ap (turned j) (listed-rule k hk ∙ ap (column 0) (sub-rule k hk)) ∙ turned-part j (sub k) hj (sub-byte k hk)

-- the parts of four bytes add up to mix
module _ (s t u v : ℕ) (hs : Byte s) (ht : Byte t) (hu : Byte u) (hv : Byte v) where
  two : {x : ℕ} → Byte x → Byte (mul8 aes x 2)
  two {x} h = mul-byte aes 8 x 2 h

  three : {x : ℕ} → Byte x → Byte (mul8 aes x 3)
  three {x} h = mul-byte aes 8 x 3 h

  columns : column 0 s ⊕ column 1 t ⊕ column 2 u ⊕ column 3 v ≡ mix v u t s
  unfolding mix
  columns =
      ap (λ (x : ℕ). x ⊕ column 2 u ⊕ column 3 v) (word-xor (mul8 aes s 3) t hs hs (two hs) ht (two ht) (three ht))
      ∙ ap (λ (x : ℕ). x ⊕ column 3 v)
      (word-xor (mul8 aes s 3 ⊕ t) u (byte-xor hs ht) (byte-xor hs (two ht)) (byte-xor (two hs) (three ht)) (two hu) (three hu) hu)
      ∙ word-xor (mul8 aes s 3 ⊕ t ⊕ u) (mul8 aes v 2) (byte-xor (byte-xor hs ht) (two hu)) (byte-xor (byte-xor hs (two ht)) (three hu))
      (byte-xor (byte-xor (two hs) (three ht)) hu) (three hv) hv hv

  mix-word : Word (mix v u t s)
  unfolding mix
  mix-word =
      join-word (byte-xor (byte-xor (byte-xor (three hs) ht) hu) (two hv)) (byte-xor (byte-xor (byte-xor hs ht) (two hu)) (three hv))
      (byte-xor (byte-xor (byte-xor hs (two ht)) (three hu)) hv) (byte-xor (byte-xor (byte-xor (two hs) (three ht)) hu) hv)

sub_of : (x : ℕ) → Byte (sub (x % 2 ^ 8))
sub_of x = sub-byte (x % 2 ^ 8) (byte_of x)

-- T is a word
pub fn_t-word : (w : ℕ) → Word (fn_t w)
unfolding fn_t
fn_t-word w = mix-word (sub (b0 w)) (sub (b1 w)) (sub (b2 w)) (sub (b3 w)) (sub_of w) (sub_of (w / 2 ^ 8)) (sub_of (w / 2 ^ 16)) (sub_of (w / 2 ^ 24))

-- T from the table
pub fn_t-by : (w : ℕ)
    → get_or column_list (b0 w) 0 ⊕ rotl 8 (get_or column_list (b1 w) 0) ⊕ rotl 16 (get_or column_list (b2 w) 0) ⊕ rotl 24 (get_or column_list (b3 w) 0) ≡ fn_t w
unfolding fn_t
fn_t-by w =
    ap₂ bit_xor
    (ap₂ bit_xor (ap₂ bit_xor (column-rule 0 (b0 w) (lit< tt) (byte_of w)) (column-rule 1 (b1 w) (lit< tt) (byte_of (w / 2 ^ 8))))
    (column-rule 2 (b2 w) (lit< tt) (byte_of (w / 2 ^ 16))))
    (column-rule 3 (b3 w) (lit< tt) (byte_of (w / 2 ^ 24)))
    ∙ columns (sub (b0 w)) (sub (b1 w)) (sub (b2 w)) (sub (b3 w)) (sub_of w) (sub_of (w / 2 ^ 8)) (sub_of (w / 2 ^ 16)) (sub_of (w / 2 ^ 24))
