-- Products with the element α and with an inverse of it, by table. α w is w moved up by a byte, with what its highest byte times y^4 is; and since the
-- product with a fixed v is additive, that it is w moved down by a byte, with what its lowest byte times v is, is a test at the powers of 2.
-- Assumes nothing.
use mathlib.Core.Path.{◌≡◌, ap, ap₂, sym, ◌∙◌}
use mathlib.Core.Bool.{Bool}
use mathlib.Core.List.{List}
use Prim.Native.Nat.{ℕ, ◌*◌, ◌/◌, ◌%◌, ◌<◌, ◌^◌}
use native.Mathlib.Omega.{arith}
use lib.Bits.{bit_xor, xor_shr, xor_zero_r}
use lib.Dec.{T}
use lib.ListN.{get_or}
use Rattle.words.specs.Word.{◌⊕◌, b0, b1, b2, b3}
use Rattle.words.specs.Lists.{Word}
use Rattle.words.proofs.Digits.{word_bytes, moved_up}
use Rattle.words.proofs.Ranges.{byte_of, join-word, xor-word}
use Rattle.field.specs.Gf32.{Field, scale, times_y, times, alpha, Products}
use Rattle.field.proofs.Additive.{Additive, sum_of, then-of, b0-sum, scale-sum-r, times-sum, mul-byte, agree, extend, values, value-at}

-- the list of the values of k v is the table of the products with v
pub products : (f : Field) (v : ℕ) (l : List ℕ) → l ≡ values (λ k. scale f k v) 8 → Products f v l
products f v l e k h = ap (λ (t : List ℕ). get_or t k 0) e ∙ value-at (λ c. scale f c v) (scale-sum-r f v) 8 k h

module _ (f : Field) where
  scale-word : (c w : ℕ) → Word (scale f c w)
  scale-word c w =
      join-word (mul-byte f.modulus 8 (b3 w) c (byte_of (w / 2 ^ 24))) (mul-byte f.modulus 8 (b2 w) c (byte_of (w / 2 ^ 16)))
      (mul-byte f.modulus 8 (b1 w) c (byte_of (w / 2 ^ 8))) (mul-byte f.modulus 8 (b0 w) c (byte_of w))

  times_y-word : (w : ℕ) → Word (times_y f w)
  unfolding times_y
  times_y-word w = xor-word (join-word (byte_of (w / 2 ^ 16)) (byte_of (w / 2 ^ 8)) (byte_of w) (byte_of 0)) (scale-word (b3 w) f.y4)

  -- a product is a word
  pub times-word : (a w : ℕ) → Word (times f a w)
  unfolding times
  times-word a w = xor-word (scale-word (b0 a) w) (times_y-word _)

  scale_one : (w : ℕ) → Word w → scale f 1 w ≡ w
  scale_one w h = simp xor_zero_r (word_bytes w h)

  alpha-is-y : (w : ℕ) → Word w → times f alpha w ≡ times_y f w
  unfolding times times_y
  alpha-is-y w h = ap (times_y f) (xor_zero_r (scale f 1 w) ∙ scale_one w h)

  -- α w from the table of the products with y^4
  pub alpha-by : (t : List ℕ) → Products f f.y4 t → (w : ℕ) → Word w → (w * 2 ^ 8 % 2 ^ 32) ⊕ get_or t (w / 2 ^ 24) 0 ≡ times f alpha w
  unfolding times_y
  alpha-by t h w hw =
      let inside : w / 2 ^ 24 < 2 ^ 8 = omega arith in
      let top : w / 2 ^ 24 ≡ b3 w = omega arith in
      ap₂ bit_xor (moved_up w) (h (w / 2 ^ 24) inside ∙ ap (λ (k : ℕ). scale f k f.y4) top) ∙ sym (alpha-is-y w hw)

  -- v w from the table of the products with v
  down : ℕ → ℕ → ℕ
  down v w = (w / 2 ^ 8) ⊕ scale f (b0 w) v

  down-sum : (v : ℕ) → Additive (down v)
  unfolding down
  down-sum v = sum_of (λ w. w / 2 ^ 8) (λ w. scale f (b0 w) v) (λ a b. xor_shr a b 8) (then-of (λ c. scale f c v) b0 (scale-sum-r f v) b0-sum)

  abbrev pub is_down : ℕ → Bool
  is_down v = agree (times f v) (λ w. (w / 2 ^ 8) ⊕ scale f (b0 w) v) 32

  pub inverse-by : (v : ℕ) → times f v 0 ≡ scale f 0 v → T (is_down v) → (t : List ℕ) → Products f v t → (w : ℕ) → Word w
      → (w / 2 ^ 8) ⊕ get_or t (w % 2 ^ 8) 0 ≡ times f v w
  unfolding down
  inverse-by v z test t h w hw =
      ap (bit_xor (w / 2 ^ 8)) (h (w % 2 ^ 8) (byte_of w))
      ∙ sym (extend (times f v) (down v) (times-sum f v) (down-sum v) z 32 test w hw)
