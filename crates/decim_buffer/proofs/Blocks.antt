-- The buffer: a bit set by a difference and a sum, and the buffer after each of B's cases.
-- Assumes nothing.
use mathlib.Core.Path.{◌≡◌, refl, ap, ap₂, sym, subst, ◌∙◌}
use mathlib.Core.Bool.{Bool, true, false}
use Prim.Native.Nat.{ℕ, zero, suc, ◌+◌, ◌*◌, ◌/◌, ◌%◌, ◌-◌, ◌^◌, ◌<◌, ◌≤◌}
use native.Mathlib.Nat.{mod-lt, mod-eq_of_lt, le_trans, mod-le, mul-le-mul_right, div-mul-le_self}
use native.Mathlib.Numerals.{add-one}
use native.Mathlib.Omega.{arith}
use lib.Dec.{eqb, ltb, lit<}
use lib.Pow.{shl_exact}
use borrow.Author.Tests.{lt-ltb, le-ltb}
use Rattle.words.specs.Tests.{pick, both}
use Rattle.decim_register.specs.Register.{bit_in, joined_down}
use Rattle.decim_register.proofs.Bits.{joined_is, joined-set, joined-below}
use Rattle.decim_register.proofs.Weights.{either}
use Rattle.decim_buffer.specs.declared.Buffer.{Buffer}
use Rattle.decim_buffer.specs.Buffers.{set_bit, buffered, fed, fed_by}

-- ---- a bit set

module _ (b i c : ℕ) (hb : b < 2 ^ 32) (hi : i < 32) (hc : c < 2) where
  old-exact : b / 2 ^ (31 - i) % 2 * 2 ^ (31 - i) % 2 ^ 32 ≡ b / 2 ^ (31 - i) % 2 * 2 ^ (31 - i)
  old-exact = shl_exact 1 (31 - i) 32 (mod-lt (b / 2 ^ (31 - i)) (lit< tt)) (omega arith)

  new-exact : c * 2 ^ (31 - i) % 2 ^ 32 ≡ c * 2 ^ (31 - i)
  new-exact = shl_exact 1 (31 - i) 32 hc (omega arith)

  old-most : b / 2 ^ (31 - i) % 2 * 2 ^ (31 - i) ≤ b
  old-most =
      le_trans (mul-le-mul_right (2 ^ (31 - i)) (mod-le (b / 2 ^ (31 - i)) 2)) (div-mul-le_self b (2 ^ (31 - i)))

  whole : joined_down 32 (bit_in b) ≡ b
  whole = joined_is 32 b (bit_in b) (λ j h. let e : 31 - j ≡ 32 - suc j = omega arith in ap (λ (n : ℕ). b / 2 ^ n % 2) e) ∙ mod-eq_of_lt hb

  exchanged : set_bit b i c + b / 2 ^ (31 - i) % 2 * 2 ^ (31 - i) ≡ b + c * 2 ^ (31 - i)
  unfolding set_bit
  exchanged =
      let e : 32 - suc i ≡ 31 - i = omega arith in
      subst (λ (n : ℕ). joined_down 32 (λ j. pick (eqb j i) c (bit_in b j)) + bit_in b i * 2 ^ n ≡ b + c * 2 ^ n) e
      (joined-set 32 i c (bit_in b) hi ∙ ap (λ (x : ℕ). x + c * 2 ^ (32 - suc i)) whole)

  set_below : set_bit b i c < 2 ^ 32
  unfolding set_bit
  set_below = joined-below 32 _ (λ j h. either (eqb j i) c (bit_in b j) hc (mod-lt (b / 2 ^ (31 - j)) (lit< tt)))

  -- the difference and the sum of the code, whose shifts lose nothing
  pub set_is : b - b / 2 ^ (31 - i) % 2 * 2 ^ (31 - i) % 2 ^ 32 + c * 2 ^ (31 - i) % 2 ^ 32 ≡ set_bit b i c
  set_is = let e = exchanged in let m = old-most in let o = old-exact in let n = new-exact in omega arith

  pub set-fits : b - b / 2 ^ (31 - i) % 2 * 2 ^ (31 - i) % 2 ^ 32 + c * 2 ^ (31 - i) % 2 ^ 32 < 2 ^ 32
  set-fits = let e = set_is in let h = set_below in omega arith

-- ---- B

module _ (t b i c : ℕ) (o : Bool) where
  abbrev with_bit : ℕ → Buffer
  with_bit x = record { t = t; b = x; fill = i + 1 }

  pub buffered-set : {x : ℕ} → o ≡ true → i < 32 → x ≡ set_bit b i c → with_bit x ≡ buffered t b i o c
  unfolding buffered
  buffered-set k h e =
      ap with_bit e
      ∙ sym (ap₂ (λ (p q : Bool). pick (both p q) (with_bit (set_bit b i c)) (record { t = t; b = b; fill = i })) k (lt-ltb i 32 h))

  pub buffered-full : o ≡ true → 32 ≤ i → record { t = t; b = b; fill = i } ≡ buffered t b i o c
  unfolding buffered
  buffered-full k h =
      sym (ap₂ (λ (p q : Bool). pick (both p q) (with_bit (set_bit b i c)) (record { t = t; b = b; fill = i })) k (le-ltb i 32 h))

  pub buffered-not : o ≡ false → record { t = t; b = b; fill = i } ≡ buffered t b i o c
  unfolding buffered
  buffered-not k = sym (ap (λ (p : Bool). pick (both p (ltb i 32)) (with_bit (set_bit b i c)) (record { t = t; b = b; fill = i })) k)

-- B leaves T as it is
kept : (p : Bool) (x y : Buffer) → x.t ≡ y.t → (pick p x y).t ≡ y.t
kept true x y e = e
kept false x y e = refl

pub buffered-t : (t b i : ℕ) (o : Bool) (c : ℕ) → (buffered t b i o c).t ≡ t
unfolding buffered
buffered-t t b i o c = kept (both o (ltb i 32)) _ _ refl

-- ---- one turn more

pub fed-more : (empty : Bool) (f : ℕ → ℕ) (h : Buffer) (k : ℕ) → fed_by empty f h (k + 1) ≡ fed empty (fed_by empty f h k) (f k)
unfolding fed_by
fed-more empty f h k = rw add-one

pub fed-agree : (empty : Bool) (f g : ℕ → ℕ) (h : Buffer) (n : ℕ) → ((k : ℕ) → k < n → f k ≡ g k) → fed_by empty f h n ≡ fed_by empty g h n
unfolding fed_by
fed-agree empty f g h zero e = refl
fed-agree empty f g h (suc n) e =
    ap₂ (fed empty) (fed-agree empty f g h n (λ k q. e k (omega arith))) (e n (omega arith))
