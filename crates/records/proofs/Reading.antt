-- What is read of records is what was written: each is read from where those before it end, and its two words make its number again.
-- Assumes nothing.
use mathlib.Core.Path.{◌≡◌, refl, ap, ap₂, sym, ◌∙◌, subst}
use mathlib.Core.List.{List, [], ◌∷◌, ◌++◌, append_assoc}
use Prim.Native.Nat.{ℕ, zero, suc, ◌+◌, ◌-◌, ◌*◌, ◌/◌, ◌%◌, ◌<◌, ◌≤◌, ◌^◌}
use native.Mathlib.Nat.{add_assoc, add-zero, not-suc-le-zero}
use native.Mathlib.Numerals.{sub-one}
use native.Mathlib.Omega.{arith}
use lib.ListN.{length, get_or, length-append, take, drop}
use Rattle.std.proofs.Common.{map, get_or-take, get_or-drop, drop-drop, lit<}
use Rattle.std.specs.Simd.{first_chunks}
use Rattle.std.specs.Int.{w64, to_be_bytes}
use lib.Pow.{split}
use lib.Seq.{get_or-append-add}
use Rattle.words.specs.Word.{word}
use Rattle.words.specs.Strings.{word_at, bytes_of}
use Rattle.words.proofs.Digits.{word_bytes}
use Rattle.text.specs.Text.{Written}
use Rattle.text.specs.declared.Text.{Text}
use Rattle.records.specs.Records.{Use, said, record_of, records_of, use_at, uses_at, uses}

-- ---- the next of the records that are left

pub next-use : (s : List ℕ) (at left : ℕ) → 0 < left → uses_at left s at ≡ use_at s at ∷ uses_at (left - 1) s (at + 10)
unfolding uses_at
next-use s at zero h = absurd (not-suc-le-zero h)
next-use s at (suc n) h = ap (λ (k : ℕ). use_at s at ∷ uses_at k s (at + 10)) (sym (sub-one (suc n)))

pub no-use : (s : List ℕ) (at left : ℕ) → left ≤ 0 → uses_at left s at ≡ []
unfolding uses_at
no-use s at zero h = refl
no-use s at (suc n) h = absurd (not-suc-le-zero h)

-- ---- a record by itself

-- what the record from byte i on says is what its ten bytes say
pub said-cut : (s : List ℕ) (i : ℕ) → said (take 10 (drop i s)) ≡ use_at s i
unfolding use_at word_at
said-cut s i = λ j. record {
  line = (byte 0 (lit< tt) ∙ ap (λ (k : ℕ). get_or s k 0) (add-zero i)) j;
  cipher = byte 1 (lit< tt) j;
  bytes = word (byte 2 (lit< tt) j) (later 2 1 (lit< tt) j) (later 2 2 (lit< tt) j) (later 2 3 (lit< tt) j) * 2 ^ 32
      + word (byte 6 (lit< tt) j) (later 6 1 (lit< tt) j) (later 6 2 (lit< tt) j) (later 6 3 (lit< tt) j);
}
  where
    byte : (k : ℕ) → k < 10 → get_or (take 10 (drop i s)) k 0 ≡ get_or s (i + k) 0
    byte k h = get_or-take 10 (drop i s) k 0 h ∙ get_or-drop i s k 0

    later : (k l : ℕ) → k + l < 10 → get_or (take 10 (drop i s)) (k + l) 0 ≡ get_or s (i + k + l) 0
    later k l h = byte (k + l) h ∙ ap (λ (n : ℕ). get_or s n 0) (sym (add_assoc i k l))

pub said-each : (s : List ℕ) (n i : ℕ) → map said (first_chunks 10 n (drop i s)) ≡ uses_at n s i
unfolding uses_at
said-each s zero i = refl
said-each s (suc n) i =
    ap₂ ◌∷◌ (said-cut s i) (ap (λ (l : List ℕ). map said (first_chunks 10 n l)) (drop-drop 10 i s) ∙ said-each s n (i + 10))

-- ---- what was written

-- the bytes of a number of 64 bits are those of its two words
word_pair : (n : ℕ) → to_be_bytes w64 n ≡ bytes_of (n / 2 ^ 32) ++ bytes_of (n % 2 ^ 32)
unfolding bytes_of
word_pair n = λ i. b7 i ∷ b6 i ∷ b5 i ∷ b4 i ∷ b3' i ∷ b2' i ∷ b1' i ∷ b0' i ∷ []
  where
    b7 : n / 256 ^ 7 % 256 ≡ n / 2 ^ 32 / 2 ^ 24 % 2 ^ 8
    b7 = omega arith

    b6 : n / 256 ^ 6 % 256 ≡ n / 2 ^ 32 / 2 ^ 16 % 2 ^ 8
    b6 = omega arith

    b5 : n / 256 ^ 5 % 256 ≡ n / 2 ^ 32 / 2 ^ 8 % 2 ^ 8
    b5 = omega arith

    b4 : n / 256 ^ 4 % 256 ≡ n / 2 ^ 32 % 2 ^ 8
    b4 = omega arith

    b3' : n / 256 ^ 3 % 256 ≡ n % 2 ^ 32 / 2 ^ 24 % 2 ^ 8
    b3' = omega arith

    b2' : n / 256 ^ 2 % 256 ≡ n % 2 ^ 32 / 2 ^ 16 % 2 ^ 8
    b2' = omega arith

    b1' : n / 256 ^ 1 % 256 ≡ n % 2 ^ 32 / 2 ^ 8 % 2 ^ 8
    b1' = omega arith

    b0' : n % 256 ≡ n % 2 ^ 32 % 2 ^ 8
    b0' = omega arith

-- a record by the bytes of its number
pub record-put : (line cipher bytes : ℕ) {n : List ℕ} {a b : Text} → n ≡ to_be_bytes w64 bytes →
    Written (line ∷ cipher ∷ get_or n 0 0 ∷ get_or n 1 0 ∷ get_or n 2 0 ∷ get_or n 3 0 ∷ get_or n 4 0 ∷ get_or n 5 0 ∷ get_or n 6 0 ∷ get_or n 7 0 ∷ []) a b → Written (record_of line cipher bytes) a b
unfolding record_of bytes_of
record-put line cipher bytes {a = a} {b} e w =
    subst (λ (p : List ℕ). Written p a b)
    (ap (λ (n : List ℕ). line ∷ cipher ∷ get_or n 0 0 ∷ get_or n 1 0 ∷ get_or n 2 0 ∷ get_or n 3 0 ∷ get_or n 4 0 ∷ get_or n 5 0 ∷ get_or n 6 0 ∷ get_or n 7 0 ∷ []) (e ∙ word_pair bytes)) w

pub record-length : (line cipher bytes : ℕ) → length (record_of line cipher bytes) ≡ 10
unfolding record_of bytes_of
record-length line cipher bytes = refl

pub records-length : (us : List Use) → length (records_of us) ≡ 10 * length us
unfolding records_of
records-length [] = refl
records-length (u ∷ us) =
    length-append (record_of u.line u.cipher u.bytes) (records_of us)
    ∙ ap₂ ◌+◌ (record-length u.line u.cipher u.bytes) (records-length us)
    ∙ (let z : 10 + 10 * length us ≡ 10 * length (u ∷ us) = omega arith in z)

-- records behind records
pub records-append : (us vs : List Use) → records_of (us ++ vs) ≡ records_of us ++ records_of vs
unfolding records_of
records-append [] vs = refl
records-append (u ∷ us) vs =
    ap (λ (l : List ℕ). record_of u.line u.cipher u.bytes ++ l) (records-append us vs)
    ∙ sym (append_assoc (record_of u.line u.cipher u.bytes) (records_of us) (records_of vs))

-- ---- and is read

-- what stands behind p is read from its end on
module _ (p s : List ℕ) where
  byte-behind : (k : ℕ) → get_or (p ++ s) (length p + k) 0 ≡ get_or s k 0
  byte-behind k = get_or-append-add p s k 0

  word-behind : (k : ℕ) → word_at (p ++ s) (length p + k) ≡ word_at s k
  unfolding word_at
  word-behind k = λ i. word (byte-behind k i) (later 1 i) (later 2 i) (later 3 i)
    where
      later : (j : ℕ) → get_or (p ++ s) (length p + k + j) 0 ≡ get_or s (k + j) 0
      later j = ap (λ (n : ℕ). get_or (p ++ s) n 0) (add_assoc (length p) k j) ∙ byte-behind (k + j)

  use-behind : use_at (p ++ s) (length p) ≡ record { line = get_or s 0 0; cipher = get_or s 1 0; bytes = word_at s 2 * 2 ^ 32 + word_at s 6 }
  unfolding use_at
  use-behind =
      let l : get_or (p ++ s) (length p) 0 ≡ get_or s 0 0 = ap (λ (n : ℕ). get_or (p ++ s) n 0) (sym (add-zero (length p))) ∙ byte-behind 0 in
      λ i. record { line = l i; cipher = byte-behind 1 i; bytes = word-behind 2 i * 2 ^ 32 + word-behind 6 i }

-- a record that was written, and whatever stands behind it
record-back : (line cipher bytes : ℕ) (p s : List ℕ) → bytes < 2 ^ 64 →
    use_at (p ++ (record_of line cipher bytes ++ s)) (length p) ≡ record { line = line; cipher = cipher; bytes = bytes }
unfolding record_of bytes_of word_at
record-back line cipher bytes p s h =
    use-behind p (record_of line cipher bytes ++ s)
    ∙ ap (λ (n : ℕ). record { line = line; cipher = cipher; bytes = n })
    (ap₂ (λ (x y : ℕ). x * 2 ^ 32 + y) (word_bytes (bytes / 2 ^ 32) (omega arith)) (word_bytes (bytes % 2 ^ 32) (omega arith)) ∙ split bytes 32)

-- their numbers fit into eight bytes
pub data Fit : List Use → Type 0 where
  none : Fit []
  more : {u : Use} {us : List Use} → u.bytes < 2 ^ 64 → Fit us → Fit (u ∷ us)

pub fit_append : {us vs : List Use} → Fit us → Fit vs → Fit (us ++ vs)
fit_append none k = k
fit_append (more h c) k = more h (fit_append c k)

from_end : (us : List Use) → Fit us → (p : List ℕ) (i : ℕ) → i ≡ length p → uses_at (length us) (p ++ records_of us) i ≡ us
unfolding uses_at records_of
from_end [] none p i e = refl
from_end (u ∷ us) (more h k) p i e =
    let r = record_of u.line u.cipher u.bytes in
    ap₂ ◌∷◌ (ap (use_at (p ++ (r ++ records_of us))) e ∙ record-back u.line u.cipher u.bytes p (records_of us) h)
    (ap (λ (s : List ℕ). uses_at (length us) s (i + 10)) (sym (append_assoc p r (records_of us)))
    ∙ from_end us k (p ++ r) (i + 10) (ap₂ ◌+◌ e (sym (record-length u.line u.cipher u.bytes)) ∙ sym (length-append p r)))

-- what is read of records is what was written
pub uses-back : (us : List Use) → Fit us → uses (records_of us) ≡ us
uses-back us k =
    ap (λ (n : ℕ). uses_at n (records_of us) 0) (let l = records-length us in let z : length (records_of us) / 10 ≡ length us = omega arith in z)
    ∙ from_end us k [] 0 refl
