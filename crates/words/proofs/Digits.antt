-- A word and its bytes: the bytes of a word make it again, a word of bytes has those bytes, and a word moved up by a byte has its three lower bytes on top.
-- Assumes nothing.
use mathlib.Core.Path.{◌≡◌, refl, ap, ◌∙◌}
use mathlib.Core.List.{[], ◌∷◌}
use Prim.Native.Nat.{ℕ, ◌+◌, ◌*◌, ◌/◌, ◌%◌, ◌<◌, ◌^◌}
use native.Mathlib.Nat.{mod-eq_of_lt}
use native.Mathlib.Omega.{arith}
use lib.Arith.{digits_div, digits_mod}
use lib.Pow.{mod-pow-add}
use Rattle.words.specs.Word.{word, b0, b1, b2, b3}
use Rattle.words.specs.Strings.{bytes_of}
use Rattle.words.specs.Lists.{Byte, Word}
use Rattle.words.proofs.Registers.{cons}

-- four digits to the base 2^8, from their sums two by two
four : {x q r : ℕ} (a b c d : ℕ) → x ≡ a * 2 ^ 24 + q → q ≡ b * 2 ^ 16 + r → r ≡ c * 2 ^ 8 + d → word a b c d ≡ x
four a b c d h k l = omega arith

pub word_bytes : (w : ℕ) → Word w → word (b3 w) (b2 w) (b1 w) (b0 w) ≡ w
word_bytes w h =
    let top : w ≡ b3 w * 2 ^ 24 + w % 2 ^ 24 = omega arith in
    four (b3 w) (b2 w) (b1 w) (b0 w) top (mod-pow-add w 8 16) (mod-pow-add w 8 8)

three : {x q r : ℕ} (a b c : ℕ) → x ≡ q * 2 ^ 8 → q ≡ a * 2 ^ 16 + r → r ≡ b * 2 ^ 8 + c → x ≡ word a b c 0
three a b c h k l = omega arith

up : (w : ℕ) → w * 2 ^ 8 % 2 ^ 32 ≡ w % 2 ^ 24 * 2 ^ 8
up w = omega arith

pub moved_up : (w : ℕ) → w * 2 ^ 8 % 2 ^ 32 ≡ word (b2 w) (b1 w) (b0 w) 0
moved_up w = three (b2 w) (b1 w) (b0 w) (up w) (mod-pow-add w 8 16) (mod-pow-add w 8 8)

-- the bytes of a word of bytes
pub word-told : (a b c d : ℕ) → Byte a → Byte b → Byte c → Byte d → bytes_of (word a b c d) ≡ a ∷ b ∷ c ∷ d ∷ []
unfolding bytes_of
word-told a b c d ha hb hc hd =
    let w : ℕ = word a b c d in
    let e3 : w ≡ a * 2 ^ 24 + (b * 2 ^ 16 + c * 2 ^ 8 + d) = omega arith in
    let e2 : w ≡ (a * 2 ^ 8 + b) * 2 ^ 16 + (c * 2 ^ 8 + d) = omega arith in
    let r3 : b * 2 ^ 16 + c * 2 ^ 8 + d < 2 ^ 24 = omega (arith, hb, hc, hd) in
    let r2 : c * 2 ^ 8 + d < 2 ^ 16 = omega (arith, hc, hd) in
    cons (ap (λ (x : ℕ). x % 2 ^ 8) (ap (λ (x : ℕ). x / 2 ^ 24) e3 ∙ digits_div a r3) ∙ mod-eq_of_lt ha)
    (cons (ap (λ (x : ℕ). x % 2 ^ 8) (ap (λ (x : ℕ). x / 2 ^ 16) e2 ∙ digits_div (a * 2 ^ 8 + b) r2) ∙ digits_mod a hb)
    (cons (ap (λ (x : ℕ). x % 2 ^ 8) (digits_div ((a * 2 ^ 8 + b) * 2 ^ 8 + c) hd) ∙ digits_mod (a * 2 ^ 8 + b) hc)
    (cons (digits_mod ((a * 2 ^ 8 + b) * 2 ^ 8 + c) hd) refl)))
