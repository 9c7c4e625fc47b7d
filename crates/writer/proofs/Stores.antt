-- A word of text with a word of keystream, as bytes of a crypt: their exclusive or goes byte by byte.
-- Assumes nothing.
use Prim.Native.Nat.{ℕ, ◌/◌, ◌%◌, ◌^◌, ◌≤◌}
use mathlib.Core.Path.{◌≡◌, refl, ap, ◌∙◌}
use mathlib.Core.List.{List, [], ◌∷◌}
use lib.ListN.{length, get_or, take}
use lib.Bits.{xor_shr, xor_mod}
use native.Mathlib.Omega.{arith}
use Rattle.keystream.specs.Stream.{xor_from}
use Rattle.words.specs.Word.{◌⊕◌, word}
use Rattle.words.specs.Lists.{Byte}
use Rattle.words.specs.Strings.{bytes_of, bytes_up}

-- the first four bytes with those of f, one by one
four-with : (f : ℕ → ℕ) (l : List ℕ) → 4 ≤ length l
    → (get_or l 0 0 ⊕ f 0) ∷ (get_or l 1 0 ⊕ f 1) ∷ (get_or l 2 0 ⊕ f 2) ∷ (get_or l 3 0 ⊕ f 3) ∷ [] ≡ xor_from f 0 (take 4 l)
unfolding xor_from
four-with f [] h = absurd (omega arith)
four-with f (a ∷ []) h = absurd (omega arith)
four-with f (a ∷ b ∷ []) h = absurd (omega arith)
four-with f (a ∷ b ∷ c ∷ []) h = absurd (omega arith)
four-with f (a ∷ b ∷ c ∷ d ∷ l) h = refl

-- a byte of the sum of two words
byte-sum : (x w k b : ℕ) → x / 2 ^ k % 2 ^ 8 ≡ b → (x ⊕ w) / 2 ^ k % 2 ^ 8 ≡ b ⊕ (w / 2 ^ k % 2 ^ 8)
byte-sum x w k b h = ap (λ (y : ℕ). y % 2 ^ 8) (xor_shr x w k) ∙ xor_mod (x / 2 ^ k) (w / 2 ^ k) 8 ∙ ap (λ (y : ℕ). y ⊕ (w / 2 ^ k % 2 ^ 8)) h

low_sum : (x w b : ℕ) → x % 2 ^ 8 ≡ b → (x ⊕ w) % 2 ^ 8 ≡ b ⊕ (w % 2 ^ 8)
low_sum x w b h = xor_mod x w 8 ∙ ap (λ (y : ℕ). y ⊕ (w % 2 ^ 8)) h

-- the bytes of the sum of w and the word x that a text begins with, the most significant first
pub word-put : (w x : ℕ) (l : List ℕ) → 4 ≤ length l → ((i : ℕ) → Byte (get_or l i 0))
    → x ≡ word (get_or l 0 0) (get_or l 1 0) (get_or l 2 0) (get_or l 3 0) → bytes_of (x ⊕ w) ≡ xor_from (λ j. get_or (bytes_of w) j 0) 0 (take 4 l)
unfolding bytes_of
word-put w x l h q e =
    let s0 : (x ⊕ w) / 2 ^ 24 % 2 ^ 8 ≡ get_or l 0 0 ⊕ (w / 2 ^ 24 % 2 ^ 8) = byte-sum x w 24 (get_or l 0 0) (omega (arith, q 0, q 1, q 2, q 3)) in
    let s1 : (x ⊕ w) / 2 ^ 16 % 2 ^ 8 ≡ get_or l 1 0 ⊕ (w / 2 ^ 16 % 2 ^ 8) = byte-sum x w 16 (get_or l 1 0) (omega (arith, q 0, q 1, q 2, q 3)) in
    let s2 : (x ⊕ w) / 2 ^ 8 % 2 ^ 8 ≡ get_or l 2 0 ⊕ (w / 2 ^ 8 % 2 ^ 8) = byte-sum x w 8 (get_or l 2 0) (omega (arith, q 0, q 1, q 2, q 3)) in
    let s3 : (x ⊕ w) % 2 ^ 8 ≡ get_or l 3 0 ⊕ (w % 2 ^ 8) = low_sum x w (get_or l 3 0) (omega (arith, q 0, q 1, q 2, q 3)) in
    (λ i. s0 i ∷ s1 i ∷ s2 i ∷ s3 i ∷ []) ∙ four-with (λ j. get_or (bytes_of w) j 0) l h

-- the same, the least significant first
pub up-put : (w x : ℕ) (l : List ℕ) → 4 ≤ length l → ((i : ℕ) → Byte (get_or l i 0))
    → x ≡ word (get_or l 3 0) (get_or l 2 0) (get_or l 1 0) (get_or l 0 0) → bytes_up (x ⊕ w) ≡ xor_from (λ j. get_or (bytes_up w) j 0) 0 (take 4 l)
unfolding bytes_up
up-put w x l h q e =
    let s0 : (x ⊕ w) % 2 ^ 8 ≡ get_or l 0 0 ⊕ (w % 2 ^ 8) = low_sum x w (get_or l 0 0) (omega (arith, q 0, q 1, q 2, q 3)) in
    let s1 : (x ⊕ w) / 2 ^ 8 % 2 ^ 8 ≡ get_or l 1 0 ⊕ (w / 2 ^ 8 % 2 ^ 8) = byte-sum x w 8 (get_or l 1 0) (omega (arith, q 0, q 1, q 2, q 3)) in
    let s2 : (x ⊕ w) / 2 ^ 16 % 2 ^ 8 ≡ get_or l 2 0 ⊕ (w / 2 ^ 16 % 2 ^ 8) = byte-sum x w 16 (get_or l 2 0) (omega (arith, q 0, q 1, q 2, q 3)) in
    let s3 : (x ⊕ w) / 2 ^ 24 % 2 ^ 8 ≡ get_or l 3 0 ⊕ (w / 2 ^ 24 % 2 ^ 8) = byte-sum x w 24 (get_or l 3 0) (omega (arith, q 0, q 1, q 2, q 3)) in
    (λ i. s0 i ∷ s1 i ∷ s2 i ∷ s3 i ∷ []) ∙ four-with (λ j. get_or (bytes_up w) j 0) l h
