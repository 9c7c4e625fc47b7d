-- Products are additive: sums pass through them, modulo a polynomial over GF(2) by induction on the digits of a factor, in GF(2^32) byte by byte. An additive function on
-- words is known by its values at the 32 powers of 2, which is a test that is computed; and the list of its values is made from those at powers of 2.
-- Assumes nothing.
use mathlib.Core.Path.{◌≡◌, refl, ap, ap₂, sym, ◌∙◌, subst}
use mathlib.Core.Bool.{Bool, true}
use mathlib.Core.List.{List, [], ◌∷◌, ◌++◌, map}
use Prim.Native.Nat.{ℕ, zero, suc, ◌+◌, ◌-◌, ◌*◌, ◌/◌, ◌%◌, ◌<◌, ◌^◌}
use native.Mathlib.Nat.{mod-lt, add-zero, zero-add, suc-add, not-suc-le-zero, le_of_suc-le-suc, zero-mul, one-mul}
use native.Mathlib.Numerals.{one-add}
use native.Mathlib.Omega.{arith}
use native.Mathlib.Decide.{dec_lt}
use lib.Arith.{lt-one}
use lib.Bits.{bit_xor, xor_shr, xor_mod, xor_block, xor_lt, xor_zero_r, xor_self, xor_shifted}
use lib.Dec.{lit<, eqb, eqb→eq, T}
use lib.ListN.{length, get_or, length-append, length-map, get_or-append}
use lib.Pow.{pow_pos, split, shr_lt}
use Rattle.words.specs.Word.{◌⊕◌, word, b0, b1, b2, b3}
use Rattle.words.specs.Lists.{Byte}
use Rattle.words.specs.Tests.{both}
use Rattle.words.proofs.Table.{both_left, both_right}
use Rattle.words.proofs.Ranges.{byte_of}
use Rattle.words.proofs.Xor.{xor-swap, word-xor}
use Rattle.field.specs.Gf2.{if_one, times_x, mul_digits}
use Rattle.field.specs.Gf8.{mul8}
use Rattle.field.specs.Gf32.{Field, scale, times_y, times}

-- f passes sums through
abbrev pub Additive : (ℕ → ℕ) → Type 0
Additive f = (u v : ℕ) → f (u ⊕ v) ≡ f u ⊕ f v

pub sum_of : (f g : ℕ → ℕ) → Additive f → Additive g → Additive (λ w. f w ⊕ g w)
sum_of f g hf hg u v = ap₂ bit_xor (hf u v) (hg u v) ∙ xor-swap (f u) (f v) (g u) (g v)

pub then-of : (f g : ℕ → ℕ) → Additive f → Additive g → Additive (λ w. f (g w))
then-of f g hf hg u v = ap f (hg u v) ∙ hf (g u) (g v)

-- ---- products modulo a polynomial of degree d

if_one-sum : (d a b : ℕ) → if_one d (a ⊕ b) ≡ if_one d a ⊕ if_one d b
if_one-sum zero a b = refl
if_one-sum (suc d) a b = refl

pub if_one-digit : (d e p : ℕ) → d < 2 → e < 2 → if_one (d ⊕ e) p ≡ if_one d p ⊕ if_one e p
if_one-digit zero e p hd he = refl
if_one-digit (suc zero) zero p hd he = sym (xor_zero_r p)
if_one-digit (suc zero) (suc zero) p hd he = sym (xor_self p)
if_one-digit (suc zero) (suc (suc e)) p hd he = absurd (not-suc-le-zero (le_of_suc-le-suc (le_of_suc-le-suc he)))
if_one-digit (suc (suc d)) e p hd he = absurd (not-suc-le-zero (le_of_suc-le-suc (le_of_suc-le-suc hd)))

pub digit : (x : ℕ) → x % 2 < 2
digit x = mod-lt x (lit< tt)

pub double-sum : (a b : ℕ) → (a ⊕ b) * 2 ≡ (a * 2) ⊕ (b * 2)
double-sum a b =
    sym (ap₂ bit_xor (sym (add-zero (a * 2))) (sym (add-zero (b * 2))) ∙ xor_block 1 a b 0 0 (lit< tt) (lit< tt) ∙ add-zero ((a ⊕ b) * 2))

if_one-lt : (d e b : ℕ) → b < 2 ^ d → if_one e b < 2 ^ d
if_one-lt d zero b h = pow_pos d
if_one-lt d (suc e) b h = h

module _ (d p : ℕ) where
  top : ℕ → ℕ
  top a = a / 2 ^ (d - 1) % 2

  pub times_x-sum : Additive (times_x d p)
  unfolding top
  times_x-sum a b =
      ap₂ (λ (x y : ℕ). (x % 2 ^ d) ⊕ if_one y (p % 2 ^ d)) (double-sum a b)
      (ap (λ (x : ℕ). x % 2) (xor_shr a b (d - 1)) ∙ xor_mod (a / 2 ^ (d - 1)) (b / 2 ^ (d - 1)) 1)
      ∙ ap₂ bit_xor (xor_mod (a * 2) (b * 2) d) (if_one-digit (top a) (top b) (p % 2 ^ d) (digit (a / 2 ^ (d - 1))) (digit (b / 2 ^ (d - 1))))
      ∙ xor-swap (a * 2 % 2 ^ d) (b * 2 % 2 ^ d) (if_one (top a) (p % 2 ^ d)) (if_one (top b) (p % 2 ^ d))

  pub times_x-lt : (a : ℕ) → times_x d p a < 2 ^ d
  times_x-lt a =
      xor_lt d (a * 2 % 2 ^ d) (if_one (a / 2 ^ (d - 1) % 2) (p % 2 ^ d)) (mod-lt (a * 2) (pow_pos d))
      (if_one-lt d (a / 2 ^ (d - 1) % 2) (p % 2 ^ d) (mod-lt p (pow_pos d)))

-- by whatever makes a product with x, if it is additive and has d digits
module _ (by_x : ℕ → ℕ) (hx : Additive by_x) where
  pub mul-sum : (n c : ℕ) → Additive (λ a. mul_digits by_x n a c)
  mul-sum zero c a b = refl
  mul-sum (suc n) c a b =
      ap₂ bit_xor (if_one-sum (c % 2) a b) (ap (λ (x : ℕ). mul_digits by_x n x (c / 2)) (hx a b) ∙ mul-sum n (c / 2) (by_x a) (by_x b))
      ∙ xor-swap (if_one (c % 2) a) (if_one (c % 2) b) (mul_digits by_x n (by_x a) (c / 2)) (mul_digits by_x n (by_x b) (c / 2))

-- the same in the other factor
pub mul-sum-r : (by_x : ℕ → ℕ) (n a : ℕ) → Additive (mul_digits by_x n a)
mul-sum-r by_x zero a c d = refl
mul-sum-r by_x (suc n) a c d =
    ap₂ (λ (x y : ℕ). if_one x a ⊕ mul_digits by_x n (by_x a) y) (xor_mod c d 1) (xor_shr c d 1)
    ∙ ap₂ bit_xor (if_one-digit (c % 2) (d % 2) a (digit c) (digit d)) (mul-sum-r by_x n (by_x a) (c / 2) (d / 2))
    ∙ xor-swap (if_one (c % 2) a) (if_one (d % 2) a) (mul_digits by_x n (by_x a) (c / 2)) (mul_digits by_x n (by_x a) (d / 2))

pub mul-lt : (d : ℕ) (by_x : ℕ → ℕ) → ((a : ℕ) → by_x a < 2 ^ d) → (n a c : ℕ) → a < 2 ^ d → mul_digits by_x n a c < 2 ^ d
mul-lt d by_x hx zero a c h = pow_pos d
mul-lt d by_x hx (suc n) a c h =
    xor_lt d (if_one (c % 2) a) (mul_digits by_x n (by_x a) (c / 2)) (if_one-lt d (c % 2) a h) (mul-lt d by_x hx n (by_x a) (c / 2) (hx a))

-- products are bytes
pub mul-byte : (p n a c : ℕ) → Byte a → Byte (mul_digits (times_x 8 p) n a c)
mul-byte p n a c h = mul-lt 8 (times_x 8 p) (times_x-lt 8 p) n a c h

-- ---- words

pub b0-sum : Additive b0
b0-sum u v = xor_mod u v 8

b1-sum : Additive b1
b1-sum u v = ap (λ (x : ℕ). x % 2 ^ 8) (xor_shr u v 8) ∙ xor_mod (u / 2 ^ 8) (v / 2 ^ 8) 8

b2-sum : Additive b2
b2-sum u v = ap (λ (x : ℕ). x % 2 ^ 8) (xor_shr u v 16) ∙ xor_mod (u / 2 ^ 16) (v / 2 ^ 16) 8

b3-sum : Additive b3
b3-sum u v = ap (λ (x : ℕ). x % 2 ^ 8) (xor_shr u v 24) ∙ xor_mod (u / 2 ^ 24) (v / 2 ^ 24) 8

-- four additive bytes make an additive word
word_sum : (f g h k : ℕ → ℕ) → Additive f → Additive g → Additive h → Additive k
    → ((w : ℕ) → Byte (g w)) → ((w : ℕ) → Byte (h w)) → ((w : ℕ) → Byte (k w)) → Additive (λ w. word (f w) (g w) (h w) (k w))
word_sum f g h k af ag ah ak bg bh bk u v =
    ap₂ (λ (x y : ℕ). (x * 2 ^ 8 + y) * 2 ^ 8 + k (u ⊕ v)) (ap₂ (λ (x y : ℕ). x * 2 ^ 8 + y) (af u v) (ag u v)) (ah u v)
    ∙ ap (λ (x : ℕ). (((f u ⊕ f v) * 2 ^ 8 + (g u ⊕ g v)) * 2 ^ 8 + (h u ⊕ h v)) * 2 ^ 8 + x) (ak u v)
    ∙ sym (word-xor (f u) (f v) (bg u) (bh u) (bk u) (bg v) (bh v) (bk v))

module _ (f : Field) where
  pub scale-sum : (c : ℕ) → Additive (scale f c)
  scale-sum c =
      word_sum (λ w. mul8 f.modulus (b3 w) c) (λ w. mul8 f.modulus (b2 w) c) (λ w. mul8 f.modulus (b1 w) c) (λ w. mul8 f.modulus (b0 w) c)
      (then-of (λ x. mul8 f.modulus x c) b3 by b3-sum) (then-of (λ x. mul8 f.modulus x c) b2 by b2-sum)
      (then-of (λ x. mul8 f.modulus x c) b1 by b1-sum) (then-of (λ x. mul8 f.modulus x c) b0 by b0-sum)
      (λ w. mul-byte f.modulus 8 (b2 w) c (byte_of (w / 2 ^ 16))) (λ w. mul-byte f.modulus 8 (b1 w) c (byte_of (w / 2 ^ 8)))
      (λ w. mul-byte f.modulus 8 (b0 w) c (byte_of w))
    where
      by : Additive (λ x. mul8 f.modulus x c)
      by = mul-sum (times_x 8 f.modulus) (times_x-sum 8 f.modulus) 8 c

  -- and in the scalar
  pub scale-sum-r : (w : ℕ) → Additive (λ c. scale f c w)
  scale-sum-r w =
      word_sum (λ c. mul8 f.modulus (b3 w) c) (λ c. mul8 f.modulus (b2 w) c) (λ c. mul8 f.modulus (b1 w) c) (λ c. mul8 f.modulus (b0 w) c)
      (mul-sum-r (times_x 8 f.modulus) 8 (b3 w)) (mul-sum-r (times_x 8 f.modulus) 8 (b2 w)) (mul-sum-r (times_x 8 f.modulus) 8 (b1 w)) (mul-sum-r (times_x 8 f.modulus) 8 (b0 w))
      (λ c. mul-byte f.modulus 8 (b2 w) c (byte_of (w / 2 ^ 16))) (λ c. mul-byte f.modulus 8 (b1 w) c (byte_of (w / 2 ^ 8)))
      (λ c. mul-byte f.modulus 8 (b0 w) c (byte_of w))

  pub times_y-sum : Additive (times_y f)
  unfolding times_y
  times_y-sum =
      sum_of (λ w. word (b2 w) (b1 w) (b0 w) 0) (λ w. scale f (b3 w) f.y4)
      (word_sum b2 b1 b0 (λ w. 0) b2-sum b1-sum b0-sum (λ u v. refl) (λ w. byte_of (w / 2 ^ 8)) byte_of (λ w. lit< tt))
      (then-of (λ c. scale f c f.y4) b3 (scale-sum-r f.y4) b3-sum)

  pub times-sum : (a : ℕ) → Additive (times f a)
  unfolding times
  times-sum a =
      sum_of (scale f (b0 a)) (λ w. times_y f (f1 w)) (scale-sum (b0 a))
      (then-of (times_y f) f1 times_y-sum
      (sum_of (scale f (b1 a)) (λ w. times_y f (f2 w)) (scale-sum (b1 a))
      (then-of (times_y f) f2 times_y-sum
      (sum_of (scale f (b2 a)) (λ w. times_y f (f3 w)) (scale-sum (b2 a)) (then-of (times_y f) f3 times_y-sum (scale-sum (b3 a)))))))
    where
      f3 : ℕ → ℕ
      f3 w = scale f (b3 a) w

      f2 : ℕ → ℕ
      f2 w = scale f (b2 a) w ⊕ times_y f (f3 w)

      f1 : ℕ → ℕ
      f1 w = scale f (b1 a) w ⊕ times_y f (f2 w)

-- ---- an additive function is known by its values at the powers of 2

-- f and g agree at 2^0, .., 2^(n - 1)
abbrev pub agree : (ℕ → ℕ) → (ℕ → ℕ) → ℕ → Bool
agree f g zero = true
agree f g (suc n) = both (eqb (f (2 ^ n)) (g (2 ^ n))) (agree f g n)

pub agree_at : (f g : ℕ → ℕ) (n : ℕ) → T (agree f g n) → (i : ℕ) → i < n → f (2 ^ i) ≡ g (2 ^ i)
agree_at f g zero t i h = absurd (not-suc-le-zero h)
agree_at f g (suc n) t i h = by (dec_lt i n) (λ q. agree_at f g n (both_right (eqb (f (2 ^ n)) (g (2 ^ n))) (agree f g n) t) i q)
  where
    by : Dec (i < n) → (i < n → f (2 ^ i) ≡ g (2 ^ i)) → f (2 ^ i) ≡ g (2 ^ i)
    by (yes q) r = r q
    by (no q) r =
        let e : i ≡ n = omega (arith, h, q) in
        subst (λ (x : ℕ). f (2 ^ x) ≡ g (2 ^ x)) (sym e) (eqb→eq (f (2 ^ n)) (g (2 ^ n)) (both_left (eqb (f (2 ^ n)) (g (2 ^ n))) (agree f g n) t))

module _ (f g : ℕ → ℕ) (hf : Additive f) (hg : Additive g) (h0 : f 0 ≡ g 0) where
  at-digit : (n d : ℕ) → d < 2 → f (2 ^ n) ≡ g (2 ^ n) → f (d * 2 ^ n) ≡ g (d * 2 ^ n)
  at-digit n zero h t = ap f (zero-mul (2 ^ n)) ∙ h0 ∙ ap g (sym (zero-mul (2 ^ n)))
  at-digit n (suc zero) h t = ap f (one-mul (2 ^ n)) ∙ t ∙ ap g (sym (one-mul (2 ^ n)))
  at-digit n (suc (suc d)) h t = absurd (not-suc-le-zero (le_of_suc-le-suc (le_of_suc-le-suc h)))

  pub known : (n : ℕ) → ((i : ℕ) → i < n → f (2 ^ i) ≡ g (2 ^ i)) → (w : ℕ) → w < 2 ^ n → f w ≡ g w
  known zero t w h = ap f (lt-one h) ∙ h0 ∙ ap g (sym (lt-one h))
  known (suc n) t w h =
      ap f cut ∙ hf (w / 2 ^ n * 2 ^ n) (w % 2 ^ n)
      ∙ ap₂ bit_xor (at-digit n (w / 2 ^ n) under (t n (omega arith))) (known n (λ i q. t i (omega (arith, q))) (w % 2 ^ n) (mod-lt w (pow_pos n)))
      ∙ sym (ap g cut ∙ hg (w / 2 ^ n * 2 ^ n) (w % 2 ^ n))
    where
      cut : w ≡ (w / 2 ^ n * 2 ^ n) ⊕ (w % 2 ^ n)
      cut = sym (xor_shifted (w / 2 ^ n) n (w % 2 ^ n) (mod-lt w (pow_pos n)) ∙ split w n)

      under : w / 2 ^ n < 2
      under = shr_lt 1 n (subst (λ (x : ℕ). w < 2 ^ x) (sym (one-add n)) h)

  -- where that is tested
  pub extend : (n : ℕ) → T (agree f g n) → (w : ℕ) → w < 2 ^ n → f w ≡ g w
  extend n t w h = known n (agree_at f g n t) w h

-- ---- and so is the list of its values

-- the values of f below 2^n: from half of them on they are those before, and f at the half
abbrev pub doubled : ℕ → List ℕ → List ℕ
doubled x l = l ++ map (bit_xor x) l

abbrev pub values : (ℕ → ℕ) → ℕ → List ℕ
values f zero = f 0 ∷ []
values f (suc n) = doubled (f (2 ^ n)) (values f n)

behind : (l m : List ℕ) (k : ℕ) → get_or (l ++ m) (length l + k) 0 ≡ get_or m k 0
behind [] m k = ap (λ (i : ℕ). get_or m i 0) (zero-add k)
behind (x ∷ l) m k = ap (λ (i : ℕ). get_or (x ∷ (l ++ m)) i 0) (suc-add (length l) k) ∙ behind l m k

mapped : (g : ℕ → ℕ) (l : List ℕ) (k : ℕ) → k < length l → get_or (map g l) k 0 ≡ g (get_or l k 0)
mapped g [] k h = absurd (not-suc-le-zero h)
mapped g (x ∷ l) zero h = refl
mapped g (x ∷ l) (suc k) h = mapped g l k (le_of_suc-le-suc h)

values_length : (f : ℕ → ℕ) (n : ℕ) → length (values f n) ≡ 2 ^ n
values_length f zero = refl
values_length f (suc n) =
    length-append (values f n) (map (bit_xor (f (2 ^ n))) (values f n))
    ∙ ap₂ ◌+◌ (values_length f n) (length-map (values f n) (bit_xor (f (2 ^ n))) ∙ values_length f n) ∙ omega arith

module _ (f : ℕ → ℕ) (hf : Additive f) where
  in-half : (n d r : ℕ) → d < 2 → r < 2 ^ n → get_or (values f n) r 0 ≡ f r → get_or (values f (suc n)) (d * 2 ^ n + r) 0 ≡ f (d * 2 ^ n + r)
  in-half n zero r hd h e =
      subst (λ (i : ℕ). get_or (values f (suc n)) i 0 ≡ f i) (sym (ap (λ (i : ℕ). i + r) (zero-mul (2 ^ n)) ∙ zero-add r))
      (get_or-append (values f n) (map (bit_xor (f (2 ^ n))) (values f n)) 0 r (subst (λ (i : ℕ). r < i) (sym (values_length f n)) h) ∙ e)
  in-half n (suc zero) r hd h e =
      ap (λ (i : ℕ). get_or (values f (suc n)) (i + r) 0) (one-mul (2 ^ n) ∙ sym (values_length f n))
      ∙ behind (values f n) (map (bit_xor (f (2 ^ n))) (values f n)) r
      ∙ mapped (bit_xor (f (2 ^ n))) (values f n) r (subst (λ (i : ℕ). r < i) (sym (values_length f n)) h)
      ∙ ap₂ bit_xor (ap f (sym (one-mul (2 ^ n)))) e ∙ sym (hf (1 * 2 ^ n) r) ∙ ap f (xor_shifted 1 n r h)
  in-half n (suc (suc d)) r hd h e = absurd (not-suc-le-zero (le_of_suc-le-suc (le_of_suc-le-suc hd)))

  pub value-at : (n k : ℕ) → k < 2 ^ n → get_or (values f n) k 0 ≡ f k
  value-at zero k h = ap (λ (i : ℕ). get_or (values f 0) i 0) (lt-one h) ∙ ap f (sym (lt-one h))
  value-at (suc n) k h =
      subst (λ (i : ℕ). get_or (values f (suc n)) i 0 ≡ f i) (split k n)
      (in-half n (k / 2 ^ n) (k % 2 ^ n) (shr_lt 1 n (subst (λ (i : ℕ). k < 2 ^ i) (sym (one-add n)) h)) (mod-lt k (pow_pos n))
      (value-at n (k % 2 ^ n) (mod-lt k (pow_pos n))))
