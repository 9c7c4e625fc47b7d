-- The fewest digits that hold a number are its digits with no zeros in front: below 10 it is one digit, and above the last digit stands the number of tens, which takes one digit less.
-- Assumes nothing.
use mathlib.Core.Path.{◌≡◌, refl, ap, ap₂, sym, ◌∙◌, subst}
use mathlib.Core.Bool.{Bool, true, false, cond}
use mathlib.Core.List.{List, [], ◌∷◌, ◌++◌}
use Prim.Native.Nat.{ℕ, zero, suc, ◌+◌, ◌-◌, ◌*◌, ◌/◌, ◌%◌, ◌^◌, ◌<◌, ◌≤◌}
use native.Mathlib.Nat.{mod-lt, not-suc-le-zero, pow-suc, pow-le-pow_right}
use native.Mathlib.Numerals.{sub-one}
use native.Mathlib.Omega.{arith}
use lib.Dec.{ltb, lit≤}
use lib.ListN.{length, take, length-append}
use borrow.Author.Tests.{ltb-true, ltb-false, lt-ltb, le-ltb}
use Rattle.io.specs.Digits.{hex_digit_ascii, last_digits, IsDigitCount}
use Rattle.words.specs.Tests.{pick}
use Rattle.text.specs.Text.{digits_of, decimal, figure}

-- a digit's glyph
digit : (d : ℕ) → d < 10 → hex_digit_ascii d ≡ 48 + d
digit d h = ap (λ (b : Bool). cond b (48 + d) (87 + d)) (lt-ltb d 10 h)

-- one digit
one : (j n : ℕ) → n < 10 → last_digits 10 1 n ≡ digits_of (suc j) n
unfolding digits_of
one j n h =
    let m : n % 10 ≡ n = omega arith in
    ap (λ (x : ℕ). x ∷ []) (ap hex_digit_ascii m ∙ digit n h) ∙ sym (ap (λ (b : Bool). pick b ((48 + n) ∷ []) (digits_of j (n / 10) ++ ((48 + n % 10) ∷ []))) (lt-ltb n 10 h))

-- a digit behind the tens
more : (k j n : ℕ) → 10 ≤ n → last_digits 10 k (n / 10) ≡ digits_of j (n / 10) → last_digits 10 (suc k) n ≡ digits_of (suc j) n
unfolding digits_of
more k j n h e =
    ap₂ (λ (x : List ℕ) (y : ℕ). x ++ (y ∷ [])) e (digit (n % 10) (mod-lt n (omega arith)))
    ∙ sym (ap (λ (b : Bool). pick b ((48 + n) ∷ []) (digits_of j (n / 10) ++ ((48 + n % 10) ∷ []))) (le-ltb n 10 h))

power : (k : ℕ) → 10 ^ suc k ≡ 10 ^ k * 10
power k = pow-suc 10 k

pub fewest-digits : (k j n : ℕ) → IsDigitCount 10 1 n k → k ≤ j → last_digits 10 k n ≡ digits_of j n
fewest-digits zero j n f h = absurd (not-suc-le-zero f.0)
fewest-digits (suc k) zero n f h = absurd (not-suc-le-zero h)
fewest-digits (suc zero) (suc j) n f h = one j n f.1
fewest-digits (suc (suc k)) (suc j) n f h =
    let low : 10 ^ suc k ≤ n = rw (sub-one (suc (suc k))) at (f.2 (omega arith)) in
    let high : n < 10 ^ suc k * 10 = rw (sym (power (suc k))) f.1 in
    let p : 1 ≤ 10 ^ k = pow_pos k in
    let e = power k in
    more (suc k) j n (omega arith) (fewest-digits (suc k) j (n / 10) (omega arith, omega arith, λ _. rw (sub-one (suc k)) (omega arith)) (omega arith))
  where
    pow_pos : (k : ℕ) → 1 ≤ 10 ^ k
    pow_pos zero = lit≤ tt
    pow_pos (suc k) = let p = pow_pos k in let e = power k in omega arith

-- a number of 64 bits has 20 at most
pub places : (n k : ℕ) → n < 2 ^ 64 → IsDigitCount 10 1 n k → k ≤ 20
places n k h f = by (ltb 20 k) refl
  where
    by : (b : Bool) → ltb 20 k ≡ b → k ≤ 20
    by false e = ltb-false 20 k e
    by true e =
        let q = ltb-true 20 k e in
        let low = f.2 (omega arith) in
        let r : 20 ≤ k - 1 = omega arith in
        let p : 10 ^ 20 ≤ 10 ^ (k - 1) = pow-le-pow_right {n = 10} (lit≤ tt) r in
        absurd (omega arith)

-- what the fewest digits that hold n are, read from a buffer
pub decimal-text : (n k : ℕ) (d : List ℕ) → n < 2 ^ 64 → IsDigitCount 10 1 n k → take k d ≡ last_digits 10 k n → take k d ≡ decimal n
decimal-text n k d h f s = s ∙ fewest-digits k 20 n f (places n k h f)

-- ---- how many digits there are

few : (b : Bool) (n k j : ℕ) → length (digits_of j (n / 10)) ≤ k → length (pick b ((48 + n) ∷ []) (digits_of j (n / 10) ++ ((48 + n % 10) ∷ []))) ≤ suc k
few true n k j h = omega arith
few false n k j h = let e = length-append (digits_of j (n / 10)) ((48 + n % 10) ∷ []) in omega arith

-- never more than are asked for
pub digits-most : (j n : ℕ) → length (digits_of j n) ≤ j
unfolding digits_of
digits-most zero n = omega arith
digits-most (suc j) n = few (ltb n 10) n j j (digits-most j (n / 10))

-- a number below 10^k has no more than k
pub digits-few : (k j n : ℕ) → n < 10 ^ suc k → length (digits_of j n) ≤ suc k
unfolding digits_of
digits-few k zero n h = omega arith
digits-few zero (suc j) n h =
    subst (λ (b : Bool). length (pick b ((48 + n) ∷ []) (digits_of j (n / 10) ++ ((48 + n % 10) ∷ []))) ≤ 1) (sym (lt-ltb n 10 h)) (lit≤ tt)
digits-few (suc k) (suc j) n h =
    let q : n < 10 ^ suc k * 10 = rw (sym (power (suc k))) h in
    few (ltb n 10) n (suc k) j (digits-few k j (n / 10) (omega arith))

-- a figure has 21 bytes at most with the one behind it
pub figure-most : (n e : ℕ) → length (figure n e) ≤ 21
figure-most n e = omega (arith, digits-most 20 n, length-append (decimal n) (e ∷ []))
