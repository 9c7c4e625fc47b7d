-- Y of 8.4.9 by its note: the bits and the products of two of them make 0 where the sum of the bits is 0 or 3 modulo 4.
-- Assumes nothing.
use mathlib.Core.Path.{◌≡◌, refl, ap, ap₂, sym, subst, ◌∙◌}
use mathlib.Core.Bool.{Bool, true, false}
use mathlib.Core.List.{List, [], ◌∷◌, map}
use Prim.Native.Nat.{ℕ, zero, suc, ◌+◌, ◌*◌, ◌/◌, ◌%◌, ◌<◌}
use native.Mathlib.Nat.{mod-lt, zero-add, zero-mul, one-mul}
use native.Mathlib.Omega.{arith}
use lib.Bits.{bit_xor, xor_lt}
use lib.Dec.{lit<}
use Rattle.words.specs.Word.{◌⊕◌}
use Rattle.words.specs.Lists.{All, none, more}
use Rattle.words.specs.Tests.{pick}
use Rattle.decim_register.specs.Register.{◌!◌, sum, products, y, l, lf, f_of}
use Rattle.decim_register.specs.Wide.{lf_taps}

abbrev pub Bit : ℕ → Type 0
Bit x = x < 2

pub either : (t : Bool) (x y : ℕ) → Bit x → Bit y → Bit (pick t x y)
either true x y p q = p
either false x y p q = q

-- X of the note
unfoldable pub total : List ℕ → ℕ
total [] = 0
total (x ∷ w) = x + total w

-- 0 times bits, and once bits
none_of : (w : List ℕ) → sum (map (λ y. 0 * y) w) ≡ 0
unfolding sum
none_of [] = refl
none_of (x ∷ w) = ap₂ ◌⊕◌ (zero-mul x) (none_of w)

once : (w : List ℕ) → sum (map (λ y. 1 * y) w) ≡ sum w
unfolding sum
once [] = refl
once (x ∷ w) = ap₂ ◌⊕◌ (one-mul x) (once w)

-- one more, in the two lowest digits
one_more : (p : ℕ) → p < 2 → (n : ℕ) → n % 2 ≡ p → (1 + n) % 2 ≡ 1 ⊕ p
one_more zero h n e = omega arith
one_more (suc zero) h n e = omega arith
one_more (suc (suc p)) h n e = omega arith

carried : (p q : ℕ) → p < 2 → q < 2 → (n : ℕ) → n % 2 ≡ q → (n + p) % 2 ≡ p ⊕ q
carried zero q hp hq n e = omega arith
carried (suc zero) zero hp hq n e = omega arith
carried (suc zero) (suc zero) hp hq n e = omega arith
carried (suc zero) (suc (suc q)) hp hq n e = omega arith
carried (suc (suc p)) q hp hq n e = omega arith

pub up : (n : ℕ) → (1 + n) / 2 % 2 ≡ (n % 2) ⊕ (n / 2 % 2)
up n =
    let e : (1 + n) / 2 ≡ n / 2 + n % 2 = omega arith in
    ap (λ (k : ℕ). k % 2) e ∙ carried (n % 2) (n / 2 % 2) (mod-lt n (lit< tt)) (mod-lt (n / 2) (lit< tt)) (n / 2) refl

record Digits (w : List ℕ) : Type 0 where
  lowest : sum w ≡ total w % 2
  second : products w ≡ total w / 2 % 2

of-bits : (w : List ℕ) → All Bit w → Digits w
unfolding sum products total
of-bits [] none = record { lowest = refl; second = refl }
of-bits (zero ∷ w) (more h k) =
    let d = of-bits w k in
    let e = zero-add (total w) in
    record {
      lowest = d.lowest ∙ ap (λ (n : ℕ). n % 2) (sym e);
      second = ap (λ (n : ℕ). n ⊕ products w) (none_of w) ∙ d.second ∙ ap (λ (n : ℕ). n / 2 % 2) (sym e);
    }
of-bits (suc zero ∷ w) (more h k) =
    let d = of-bits w k in
    record {
      lowest = ap (bit_xor 1) d.lowest ∙ sym (one_more (total w % 2) (mod-lt (total w) (lit< tt)) (total w) refl);
      second = ap₂ bit_xor (once w ∙ d.lowest) d.second ∙ sym (up (total w));
    }
of-bits (suc (suc x) ∷ w) (more h k) = absurd (omega arith)

pub y-note : (w : List ℕ) → All Bit w → y w ≡ (1 + total w) / 2 % 2
unfolding y
y-note w h = let d = of-bits w h in ap₂ ◌⊕◌ d.lowest d.second ∙ sym (up (total w))

-- ---- L, LF and fk are bits

pub xor-bit : {a b : ℕ} → Bit a → Bit b → Bit (a ⊕ b)
xor-bit {a} {b} h k = xor_lt 1 a b h k

pub bit-of : (w : List ℕ) (j : ℕ) → Bit (w ! j)
bit-of w j = mod-lt _ (lit< tt)

pub l-bit : (w : List ℕ) → Bit (l w)
unfolding l
l-bit w =
    with 187 (with 176 (with 175 (with 146 (with 115 (with 98 (with 61 (with 60 (with 37 (with 36 (with 23 (with 4 (with 3 (bit-of w 0)))))))))))))
  where
    with : {a : ℕ} (j : ℕ) → Bit a → Bit (a ⊕ w ! j)
    with j h = xor-bit h (bit-of w j)

-- LF of a register, from the sum of its bits
pub lf-note : (w : List ℕ) → lf w ≡ (1 + total (map (λ t. w ! t) lf_taps)) / 2 % 2
unfolding lf
lf-note w =
    y-note (map (λ t. w ! t) lf_taps) (b 13 (b 28 (b 45 (b 54 (b 65 (b 104 (b 111 (b 144 (b 162 (b 172 (b 178 (b 186 (b 191 none)))))))))))))
  where
    b : (j : ℕ) {l : List ℕ} → All Bit l → All Bit (w ! j ∷ l)
    b j h = more (bit-of w j) h

pub lf-bit : (w : List ℕ) → Bit (lf w)
lf-bit w = subst Bit (sym (lf-note w)) (mod-lt ((1 + total (map (λ t. w ! t) lf_taps)) / 2) (lit< tt))

pub f-bit : (w : List ℕ) → Bit (f_of w)
unfolding f_of
f-bit w = xor-bit (bit-of w 1) (lf-bit w)

pub l-lf-bit : (w : List ℕ) → Bit (l w ⊕ lf w)
l-lf-bit w = xor-bit (l-bit w) (lf-bit w)
