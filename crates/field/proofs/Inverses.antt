-- In a ring of polynomials over GF(2) modulo one of degree d every element but 0 has an inverse, with no theory of fields, where x^(2^d) is x and only 0 and 1 are their own squares: a^(2^d) is a for
-- all a, since squaring is additive and multiplicative; so e = a a^(2^d - 2) is its own square.
-- Assumes nothing.
use mathlib.Core.Path.{◌≡◌, refl, ap, ap₂, sym, ◌∙◌}
use Prim.Native.Nat.{ℕ, zero, suc, ◌%◌, ◌<◌, ◌^◌}
use native.Mathlib.Nat.{mod-lt, mod-eq_of_lt, not-suc-le-zero, le_of_suc-le-suc}
use native.Mathlib.Omega.{arith}
use lib.Bits.{bit_xor, xor_mod, xor_self}
use lib.Pow.{pow-lt, pow_pos}
use Rattle.words.specs.Word.{◌⊕◌}
use Rattle.words.specs.Lists.{iter}
use Rattle.words.proofs.Xor.{xor_assoc}
use Rattle.field.specs.Gf2.{mul_digits, squares}
use Rattle.field.proofs.Additive.{Additive, known}
use Rattle.field.proofs.Ring as R
use Rattle.field.proofs.Ring.{ByX}

-- a function that is additive below 2^d is known there by its values at the powers of 2
abbrev AdditiveBelow : ℕ → (ℕ → ℕ) → Type 0
AdditiveBelow d f = (a b : ℕ) → a < 2 ^ d → b < 2 ^ d → f (a ⊕ b) ≡ f a ⊕ f b

cut_sum : (d : ℕ) (f : ℕ → ℕ) → AdditiveBelow d f → Additive (λ a. f (a % 2 ^ d))
cut_sum d f h a b = ap f (xor_mod a b d) ∙ h (a % 2 ^ d) (b % 2 ^ d) (mod-lt a (pow_pos d)) (mod-lt b (pow_pos d))

pub known-below : (d : ℕ) (f g : ℕ → ℕ) → AdditiveBelow d f → AdditiveBelow d g → f 0 ≡ g 0 → ((i : ℕ) → i < d → f (2 ^ i) ≡ g (2 ^ i)) →
    (w : ℕ) → w < 2 ^ d → f w ≡ g w
known-below d f g hf hg h0 t w h =
    let none : 0 % 2 ^ d ≡ 0 = mod-eq_of_lt (pow_pos d) in
    ap f (sym (mod-eq_of_lt h))
    ∙ known (λ a. f (a % 2 ^ d)) (λ a. g (a % 2 ^ d)) (cut_sum d f hf) (cut_sum d g hg) (ap f none ∙ h0 ∙ ap g (sym none)) d
    (λ i q. ap f (mod-eq_of_lt (pow-lt q)) ∙ t i q ∙ ap g (sym (mod-eq_of_lt (pow-lt q)))) w h
    ∙ ap g (mod-eq_of_lt h)

module _ (d : ℕ) (by_x : ℕ → ℕ) (m : ByX d by_x) where
  abbrev mul : ℕ → ℕ → ℕ
  mul a b = mul_digits by_x d a b

  abbrev mul-under : (a b : ℕ) → a < 2 ^ d → mul_digits by_x d a b < 2 ^ d
  mul-under = R.mul-under d by_x m

  abbrev mul_comm : (a b : ℕ) → a < 2 ^ d → b < 2 ^ d → mul_digits by_x d a b ≡ mul_digits by_x d b a
  mul_comm = R.mul_comm d by_x m

  abbrev mul_assoc : (a b c : ℕ) → a < 2 ^ d → b < 2 ^ d → c < 2 ^ d → mul_digits by_x d (mul_digits by_x d a b) c ≡ mul_digits by_x d a (mul_digits by_x d b c)
  mul_assoc = R.mul_assoc d by_x m

  -- ---- squares

  sq : ℕ → ℕ
  sq a = mul_digits by_x d a a

  sq-is : (a : ℕ) → sq a ≡ mul_digits by_x d a a
  unfolding sq
  sq-is a = refl

  sq-under : (a : ℕ) → a < 2 ^ d → sq a < 2 ^ d
  unfolding sq
  sq-under a h = mul-under a a h

  -- (a b)^2 = a^2 b^2
  sq-mul : (a b : ℕ) → a < 2 ^ d → b < 2 ^ d → sq (mul a b) ≡ mul (sq a) (sq b)
  unfolding sq
  sq-mul a b ha hb =
      let ab = mul-under a b ha in
      mul_assoc a b (mul a b) ha hb ab
      ∙ ap (mul a) (sym (mul_assoc b a b hb ha hb) ∙ ap (λ (x : ℕ). mul x b) (mul_comm b a hb ha) ∙ mul_assoc a b b ha hb hb)
      ∙ sym (mul_assoc a a (mul b b) ha ha (mul-under b b hb))

  -- (a + b)^2 = a^2 + b^2
  pub square-sum : (a b : ℕ) → a < 2 ^ d → b < 2 ^ d → mul_digits by_x d (a ⊕ b) (a ⊕ b) ≡ mul_digits by_x d a a ⊕ mul_digits by_x d b b
  square-sum a b ha hb =
      R.mul-add d by_x m (a ⊕ b) a b
      ∙ ap₂ bit_xor (R.mul-add-r d by_x m a a b) (R.mul-add-r d by_x m b a b)
      ∙ ap (λ (x : ℕ). (mul a a ⊕ mul a b) ⊕ (x ⊕ mul b b)) (mul_comm b a hb ha)
      ∙ cancel (mul a a) (mul a b) (mul b b)
    where
      cancel : (x y z : ℕ) → (x ⊕ y) ⊕ (y ⊕ z) ≡ x ⊕ z
      cancel x y z = xor_assoc x y (y ⊕ z) ∙ ap (bit_xor x) (sym (xor_assoc y y z) ∙ ap (λ (w : ℕ). w ⊕ z) (xor_self y))

  sq-sum : (a b : ℕ) → a < 2 ^ d → b < 2 ^ d → sq (a ⊕ b) ≡ sq a ⊕ sq b
  unfolding sq
  sq-sum a b ha hb = square-sum a b ha hb

  -- ---- many times over: a^(2^n)

  unfoldable pub many : ℕ → ℕ → ℕ
  many n a = iter n (λ x. mul_digits by_x d x x) a

  many_more : (n a : ℕ) → many (suc n) a ≡ sq (many n a)
  unfolding many iter sq
  many_more n a = refl

  many-none : (a : ℕ) → many 0 a ≡ a
  unfolding many iter
  many-none a = refl

  many-under : (n a : ℕ) → a < 2 ^ d → many n a < 2 ^ d
  unfolding many iter
  many-under zero a h = h
  many-under (suc n) a h = mul-under (many n a) (many n a) (many-under n a h)

  many-sum : (n a b : ℕ) → a < 2 ^ d → b < 2 ^ d → many n (a ⊕ b) ≡ many n a ⊕ many n b
  unfolding many iter sq
  many-sum zero a b ha hb = refl
  many-sum (suc n) a b ha hb = ap sq (many-sum n a b ha hb) ∙ sq-sum (many n a) (many n b) (many-under n a ha) (many-under n b hb)

  many-mul : (n a b : ℕ) → a < 2 ^ d → b < 2 ^ d → many n (mul a b) ≡ mul (many n a) (many n b)
  unfolding many iter sq
  many-mul zero a b ha hb = refl
  many-mul (suc n) a b ha hb = ap sq (many-mul n a b ha hb) ∙ sq-mul (many n a) (many n b) (many-under n a ha) (many-under n b hb)

  many-back : (n a : ℕ) → many n (sq a) ≡ sq (many n a)
  unfolding many iter sq
  many-back zero a = refl
  many-back (suc n) a = ap sq (many-back n a)

  many-one : (n : ℕ) → many n 1 ≡ 1
  unfolding many iter sq
  many-one zero = refl
  many-one (suc n) = ap sq (many-one n) ∙ R.mul-one-r d by_x m 1

  many-zero : (n : ℕ) → many n 0 ≡ 0
  unfolding many iter sq
  many-zero zero = refl
  many-zero (suc n) = ap sq (many-zero n) ∙ R.mul-zero-r d by_x m 0

  times-two : (a : ℕ) → 1 < d → mul a 2 ≡ by_x a
  unfolding iter
  times-two a two = R.mul-pow d by_x m 1 a two

  -- ---- x^(2^d) is x

  module _ (two : 1 < d) (back : many d 2 ≡ 2) where
    two-under : 2 < 2 ^ d
    two-under = pow-lt two

    many-x : (a : ℕ) → a < 2 ^ d → many d (by_x a) ≡ by_x (many d a)
    many-x a h = ap (many d) (sym (times-two a two)) ∙ many-mul d a 2 h two-under ∙ ap (mul (many d a)) back ∙ times-two (many d a) two

    many-power : (i : ℕ) → i < d → many d (2 ^ i) ≡ 2 ^ i
    many-power zero h = many-one d
    many-power (suc i) h =
        let l : i < d = omega (arith, h) in
        ap (many d) (sym (m.next i h)) ∙ many-x (2 ^ i) (pow-lt l) ∙ ap by_x (many-power i l) ∙ m.next i h

    -- so a^(2^d) is a
    all_back : (a : ℕ) → a < 2 ^ d → many d a ≡ a
    all_back a h = known-below d (many d) (λ x. x) (many-sum d) (λ u v _ _. refl) (many-zero d) many-power a h

  -- ---- the product of a^2, a^4, .., n factors

  chain : ℕ → ℕ → ℕ
  chain zero a = 1
  chain (suc n) a = mul_digits by_x d (sq a) (chain n (sq a))

  one-under : 1 < 2 ^ d
  one-under = pow-lt m.some

  chain-under : (n a : ℕ) → a < 2 ^ d → chain n a < 2 ^ d
  unfolding chain
  chain-under zero a h = one-under
  chain-under (suc n) a h = mul-under (sq a) (chain n (sq a)) (sq-under a h)

  -- as it is worked out
  squares-chain : (n r a : ℕ) → r < 2 ^ d → a < 2 ^ d → squares (λ x y. mul_digits by_x d x y) n r a ≡ mul r (chain n a)
  unfolding squares chain sq
  squares-chain zero r a hr h = sym (R.mul-one-r d by_x m r)
  squares-chain (suc n) r a hr h =
      let s = mul-under a a h in
      squares-chain n (mul r (mul a a)) (mul a a) (mul-under r (mul a a) hr) s ∙ mul_assoc r (mul a a) (chain n (mul a a)) hr s (chain-under n (mul a a) s)

  -- a^2 a^2 a^4 .. a^(2^n) = a^(2^(n + 1))
  square-all : (n a : ℕ) → a < 2 ^ d → mul (sq a) (chain n a) ≡ many (suc n) a
  unfolding chain
  square-all zero a h = R.mul-one-r d by_x m (sq a) ∙ sym (many_more 0 a ∙ ap sq (many-none a))
  square-all (suc n) a h =
      let s = sq-under a h in
      sym (mul_assoc (sq a) (sq a) (chain n (sq a)) s s (chain-under n (sq a) s))
      ∙ ap (λ (x : ℕ). mul x (chain n (sq a))) (sym (sq-is (sq a)))
      ∙ square-all n (sq a) s
      ∙ many-back (suc n) a
      ∙ sym (many_more (suc n) a)

  sq-chain : (n a : ℕ) → a < 2 ^ d → sq (chain n a) ≡ chain n (sq a)
  unfolding chain
  sq-chain zero a h = sq-is 1 ∙ R.mul-one-r d by_x m 1
  sq-chain (suc n) a h =
      let s = sq-under a h in
      sq-mul (sq a) (chain n (sq a)) s (chain-under n (sq a) s) ∙ ap (mul (sq (sq a))) (sq-chain n (sq a) s)

  longer : (n a : ℕ) → a < 2 ^ d → chain (suc n) a ≡ mul (chain n a) (many (suc n) a)
  unfolding chain
  longer zero a h = mul_comm (sq a) 1 (sq-under a h) one-under ∙ ap (mul 1) (sym (many_more 0 a ∙ ap sq (many-none a)))
  longer (suc n) a h =
      let s = sq-under a h in
      ap (mul (sq a)) (longer n (sq a) s)
      ∙ sym (mul_assoc (sq a) (chain n (sq a)) (many (suc n) (sq a)) s (chain-under n (sq a) s) (many-under (suc n) (sq a) s))
      ∙ ap (mul (mul (sq a) (chain n (sq a)))) (many-back (suc n) a ∙ sym (many_more (suc n) a))

  -- ---- the inverse

  module _ (k : ℕ) (last : suc k ≡ d) (two : 1 < d) (back : many d 2 ≡ 2) (only : (a : ℕ) → a < 2 ^ d → mul_digits by_x d a a ≡ a → a < 2) where
    module _ (a : ℕ) (h : a < 2 ^ d) where
      s-under : chain k a < 2 ^ d
      s-under = chain-under k a h

      a_back : many (suc k) a ≡ a
      a_back = ap (λ (n : ℕ). many n a) last ∙ all_back two back a h

      -- a e = a
      times-e : mul a (mul a (chain k a)) ≡ a
      times-e = sym (mul_assoc a a (chain k a) h h s-under) ∙ ap (λ (x : ℕ). mul x (chain k a)) (sym (sq-is a)) ∙ square-all k a h ∙ a_back

      -- e^2 = e
      e-again : sq (mul a (chain k a)) ≡ mul a (chain k a)
      unfolding chain
      e-again =
          sq-mul a (chain k a) h s-under ∙ ap (mul (sq a)) (sq-chain k a h) ∙ longer k a h ∙ ap (mul (chain k a)) a_back ∙ mul_comm (chain k a) a s-under h

    -- every element but 0 times the product of its squares is 1
    pub inverted : (a : ℕ) → a < 2 ^ d → (a ≡ 0 → ⊥) → mul_digits by_x d a (squares (λ x y. mul_digits by_x d x y) k 1 a) ≡ 1
    inverted a h nz =
        ap (mul a) (squares-chain k 1 a one-under h ∙ R.mul-one d by_x m (chain k a) (s-under a h))
        ∙ by (mul a (chain k a)) refl (only (mul a (chain k a)) (mul-under a (chain k a) h) (sym (sq-is (mul a (chain k a))) ∙ e-again a h))
      where
        by : (x : ℕ) → mul a (chain k a) ≡ x → x < 2 → mul a (chain k a) ≡ 1
        by zero q l = absurd (nz (sym (times-e a h) ∙ ap (mul a) q ∙ R.mul-zero-r d by_x m a))
        by (suc zero) q l = q
        by (suc (suc x)) q l = absurd (not-suc-le-zero (le_of_suc-le-suc (le_of_suc-le-suc l)))

    pub inverse-under : (a : ℕ) → a < 2 ^ d → squares (λ x y. mul_digits by_x d x y) k 1 a < 2 ^ d
    inverse-under a h = rw (squares-chain k 1 a one-under h) (mul-under 1 (chain k a) one-under)
