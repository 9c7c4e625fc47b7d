-- The buffer drawn: its first bits moved up by one make the number that the code's shifts make.
-- Assumes nothing.
use mathlib.Core.Path.{◌≡◌, refl, ap, ap₂, sym, subst, ◌∙◌}
use mathlib.Core.Bool.{Bool, true, false}
use Prim.Native.Nat.{ℕ, suc, ◌+◌, ◌*◌, ◌/◌, ◌%◌, ◌-◌, ◌^◌, ◌<◌, ◌≤◌}
use native.Mathlib.Nat.{mod-lt, add_comm, mod-eq_of_lt, lt_of_le_of_lt, div-mul-le_self}
use native.Mathlib.Numerals.{add-one}
use native.Mathlib.Omega.{arith}
use lib.Arith.{digits_lt}
use lib.Dec.{ltb, lit<}
use lib.Pow.{shr_lt, shr-shr, shl-shr, field, pow-add, pow_pos, split}
use borrow.Author.Tests.{lt-ltb, le-ltb}
use Rattle.words.specs.Tests.{pick}
use Rattle.decim_register.specs.Register.{bit_in, joined_down}
use Rattle.decim_register.proofs.Bits.{joined-agree, joined_is, joined-split}
use Rattle.decim_buffer.specs.Buffers.{drawn_bits}

drawn-parts : (b i p : ℕ) → i + suc p ≡ 32 → drawn_bits b i ≡ (b / 2 ^ p % 2 ^ i) * 2 ^ suc p + b % 2 ^ suc p
unfolding drawn_bits
drawn-parts b i p e =
    ap (λ (k : ℕ). joined_down k drawn) (sym e)
    ∙ joined-split i (suc p) drawn
    ∙ ap₂ (λ (x y : ℕ). x * 2 ^ suc p + y)
    (joined_is i (b / 2 ^ p) drawn
    (λ j h.
    let k : 31 - (j + 1) ≡ p + (i - suc j) = omega arith in
    ap (λ (t : Bool). pick t (bit_in b (j + 1)) (bit_in b j)) (lt-ltb j i h)
    ∙ ap (λ (n : ℕ). b / 2 ^ n % 2) k
    ∙ ap (λ (n : ℕ). n % 2) (sym (shr-shr b p (i - suc j)))))
    (joined_is (suc p) b (λ j. drawn (i + j))
    (λ j h.
    let k : 31 - (i + j) ≡ suc p - suc j = omega arith in
    ap (λ (t : Bool). pick t (bit_in b (i + j + 1)) (bit_in b (i + j))) (le-ltb (i + j) i (omega arith)) ∙ ap (λ (n : ℕ). b / 2 ^ n % 2) k))
  where
    drawn : ℕ → ℕ
    drawn j = pick (ltb j i) (bit_in b (j + 1)) (bit_in b j)

-- all but the lowest p bits moved up by one
pub drawn-is : (b i p : ℕ) → i + suc p ≡ 32 → b * 2 % 2 ^ 32 / 2 ^ suc p * 2 ^ suc p + b % 2 ^ suc p ≡ drawn_bits b i
drawn-is b i p e =
    let h : b * 2 / 2 ^ suc p ≡ b / 2 ^ p =
    ap (λ (k : ℕ). b * 2 / 2 ^ k) (sym (add_comm 1 p ∙ add-one p)) ∙ sym (shr-shr (b * 2) 1 p) ∙ ap (λ (x : ℕ). x / 2 ^ p) (shl-shr b 1) in
    ap (λ (x : ℕ). x * 2 ^ suc p + b % 2 ^ suc p)
    (ap (λ (k : ℕ). b * 2 % 2 ^ k / 2 ^ suc p) (sym e) ∙ field (b * 2) i (suc p) ∙ ap (λ (x : ℕ). x % 2 ^ i) h)
    ∙ sym (drawn-parts b i p e)

-- no bits moved
pub drawn-none : (b : ℕ) → b < 2 ^ 32 → b ≡ drawn_bits b 0
drawn-none b h = sym (drawn-parts b 0 31 refl ∙ omega arith)

-- from the last bit on, more bits are no more
pub drawn-more : (b i : ℕ) → 31 ≤ i → drawn_bits b 31 ≡ drawn_bits b i
unfolding drawn_bits joined_down
drawn-more b i h =
    sym (ap₂ (λ (x y : ℕ). x * 2 + y)
    (joined-agree 31 _ _ (λ j k. ap (λ (t : Bool). pick t (bit_in b (j + 1)) (bit_in b j)) (lt-ltb j i (omega arith) ∙ sym (lt-ltb j 31 k))))
    (either (ltb 31 i)))
  where
    either : (t : Bool) → pick t (bit_in b 32) (bit_in b 31) ≡ bit_in b 31
    either true = refl
    either false = refl

-- the code's shifts lose nothing, and its sum fits
module _ (b p : ℕ) (h : b < 2 ^ 32) (k : p < 32) where
  back : (x : ℕ) → x < 2 ^ 32 → x / 2 ^ p * 2 ^ p % 2 ^ 32 ≡ x / 2 ^ p * 2 ^ p
  back x q = mod-eq_of_lt (lt_of_le_of_lt (div-mul-le_self x (2 ^ p)) q)

  pub above-is : b * 2 % 2 ^ 32 / 2 ^ p * 2 ^ p % 2 ^ 32 + (b - b / 2 ^ p * 2 ^ p % 2 ^ 32) ≡ b * 2 % 2 ^ 32 / 2 ^ p * 2 ^ p + b % 2 ^ p
  above-is =
      let x = back (b * 2 % 2 ^ 32) (mod-lt (b * 2) (lit< tt)) in
      let e = back b h in
      let s = split b p in
      omega arith

  pub above-fits : b * 2 % 2 ^ 32 / 2 ^ p * 2 ^ p % 2 ^ 32 + (b - b / 2 ^ p * 2 ^ p % 2 ^ 32) < 2 ^ 32
  above-fits =
      let e : (32 - p) + p ≡ 32 = omega arith in
      let w : b * 2 % 2 ^ 32 < 2 ^ ((32 - p) + p) = subst (λ (n : ℕ). b * 2 % 2 ^ 32 < 2 ^ n) (sym e) (mod-lt (b * 2) (lit< tt)) in
      let d : b * 2 % 2 ^ 32 / 2 ^ p * 2 ^ p + b % 2 ^ p < 2 ^ (32 - p) * 2 ^ p =
      digits_lt (shr_lt (32 - p) p w) (mod-lt b (pow_pos p)) in
      let t : 2 ^ (32 - p) * 2 ^ p ≡ 2 ^ 32 = sym (pow-add 2 (32 - p) p) ∙ ap (λ (n : ℕ). 2 ^ n) e in
      let s = above-is in
      omega arith
