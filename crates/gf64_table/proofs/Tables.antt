-- A table of multiples as it is filled, four entries a turn, and a product as it is put together, two digits a turn: what is summed and what the
-- digits that are left give is the product.
-- Assumes nothing.
use mathlib.Core.Path.{◌≡◌, refl, ap, ap₂, sym, ◌∙◌}
use mathlib.Core.List.{List, ◌++◌, append-nil}
use Prim.Native.Nat.{ℕ, suc, ◌+◌, ◌-◌, ◌*◌, ◌/◌, ◌%◌, ◌<◌, ◌≤◌}
use native.Mathlib.Nat.{mod-lt}
use native.Mathlib.Omega.{arith}
use lib.Bits.{bit_xor, xor_zero_r}
use lib.Dec.{lit<}
use lib.ListN.{length, get_or, drop, set, length-set}
use lib.Seq.{drop-length}
use Rattle.words.specs.Word.{◌⊕◌}
use Rattle.words.specs.Lists.{tab, iter}
use Rattle.words.proofs.Registers.{fill}
use Rattle.words.proofs.Xor.{xor_assoc}
use Rattle.field.specs.Gf2.{if_one, mul_digits}
use Rattle.keystream.proofs.Tables.{get_d-tab}
use Rattle.gf64.specs.Gf64.{by_x, mul}
use Rattle.gf64_table.specs.Multiples.{part, multiples_of, TimesBy}

-- ---- entries

part-is : (a at d : ℕ) → at % 4 ≡ 0 → d < 4 → part a (at + d) ≡ mul_digits by_x 2 (iter (at / 2) by_x a) d
unfolding part
part-is a at d e h =
    let p : 2 * ((at + d) / 4) ≡ at / 2 = omega arith in
    let q : (at + d) % 4 ≡ d = omega arith in
    ap₂ (λ (m n : ℕ). mul_digits by_x 2 (iter m by_x a) n) p q

-- ---- the table

pub record Filled (a : ℕ) (t₀ t : List ℕ) (x at : ℕ) : Type 0 where
  pub even : at % 4 ≡ 0
  pub most : at ≤ 128
  pub size : length t₀ ≡ 128
  pub same_length : length t ≡ length t₀
  pub power : x ≡ iter (at / 2) by_x a
  pub is : t ≡ tab at (part a) ++ drop at t₀

pub filled_none : (a : ℕ) (t : List ℕ) → length t ≡ 128 → Filled a t t a 0
unfolding iter
filled_none a t h = record { even = refl; most = omega arith; size = h; same_length = refl; power = refl; is = refl }

-- one entry more
one_more : (a : ℕ) (t₀ : List ℕ) (at : ℕ) {t : List ℕ} {v : ℕ} → at < length t₀ → v ≡ part a at → t ≡ tab at (part a) ++ drop at t₀ → set t at v ≡ tab (at + 1) (part a) ++ drop (at + 1) t₀
one_more a t₀ at h e is = ap₂ (λ (l : List ℕ) (x : ℕ). set l at x) is e ∙ fill at (part a) t₀ h

pub filled_more : {a : ℕ} {t₀ t : List ℕ} {x y x' at : ℕ} → at < 128 → Filled a t₀ t x at → y ≡ by_x x → x' ≡ by_x y
    → Filled a t₀ (set (set (set (set t at 0) (at + 1) x) (at + 2) y) (at + 3) (x ⊕ y)) x' (at + 4)
unfolding iter
filled_more {a} {t₀} {t} {x} {y} {x'} {at} h f ey ex =
    let v = f.even in
    let z = f.size in
    let n : (at + 4) % 4 ≡ 0 = omega arith in
    let m : at + 4 ≤ 128 = omega arith in
    let up : suc (suc (at / 2)) ≡ (at + 4) / 2 = omega arith in
    let X = iter (at / 2) by_x a in
    let e0 : 0 ≡ part a at = sym (ap (part a) (let q : at ≡ at + 0 = omega arith in q) ∙ part-is a at 0 v (lit< tt)) in
    let e1 : x ≡ part a (at + 1) = f.power ∙ sym (part-is a at 1 v (lit< tt) ∙ xor_zero_r X) in
    let e2 : y ≡ part a (at + 2) = ey ∙ ap by_x f.power ∙ sym (part-is a at 2 v (lit< tt) ∙ xor_zero_r (by_x X)) in
    let e3 : x ⊕ y ≡ part a (at + 3) =
    ap₂ bit_xor f.power (ey ∙ ap by_x f.power) ∙ sym (part-is a at 3 v (lit< tt) ∙ ap (bit_xor X) (xor_zero_r (by_x X))) in
    let s1 = one_more a t₀ at {v = 0} (omega arith) e0 f.is in
    let s2 = one_more a t₀ (at + 1) (omega arith) e1 s1 in
    let s3 = one_more a t₀ (at + 1 + 1) (omega arith) (e2 ∙ ap (part a) (let q : at + 2 ≡ at + 1 + 1 = omega arith in q)) s2 in
    let s4 = one_more a t₀ (at + 1 + 1 + 1) (omega arith) (e3 ∙ ap (part a) (let q : at + 3 ≡ at + 1 + 1 + 1 = omega arith in q)) s3 in
    let l2 : at + 2 ≡ at + 1 + 1 = omega arith in
    let l3 : at + 3 ≡ at + 1 + 1 + 1 = omega arith in
    let l4 : at + 1 + 1 + 1 + 1 ≡ at + 4 = omega arith in
    record {
      even = n;
      most = m;
      size = z;
      same_length =
          length-set (set (set (set t at 0) (at + 1) x) (at + 2) y) (at + 3) (x ⊕ y)
          ∙ length-set (set (set t at 0) (at + 1) x) (at + 2) y
          ∙ length-set (set t at 0) (at + 1) x
          ∙ length-set t at 0
          ∙ f.same_length;
      power = ex ∙ ap by_x (ey ∙ ap by_x f.power) ∙ ap (λ (k : ℕ). iter k by_x a) up;
      is =
          ap₂ (λ (i j : ℕ). set (set (set (set t at 0) (at + 1) x) i y) j (x ⊕ y)) l2 l3
          ∙ s4
          ∙ ap (λ (k : ℕ). tab k (part a) ++ drop k t₀) l4;
    }

pub filled-all : {a : ℕ} {t₀ t : List ℕ} {x at : ℕ} → 128 ≤ at → Filled a t₀ t x at → t ≡ multiples_of a
unfolding multiples_of
filled-all {a} {t₀} {t} {x} {at} h f =
    let m = f.most in
    let e : at ≡ 128 = omega arith in
    f.is
    ∙ ap (λ (k : ℕ). tab k (part a) ++ drop k t₀) e
    ∙ ap (λ (l : List ℕ). tab 128 (part a) ++ l) (ap (λ (k : ℕ). drop k t₀) (sym f.size) ∙ drop-length t₀)
    ∙ append-nil (tab 128 (part a))

-- ---- a product

second : (q h : ℕ) → (2 * q + h) % 2 ≡ h % 2
second q h = omega arith

-- two digits are taken off
two_digits : (n x y : ℕ) → mul_digits by_x (suc (suc n)) x y ≡ mul_digits by_x 2 x (y % 4) ⊕ mul_digits by_x n (by_x (by_x x)) (y / 4)
two_digits n x y =
    let a : y % 4 % 2 ≡ y % 2 = omega arith in
    let h : y / 2 ≡ 2 * (y / 4) + y % 4 / 2 = omega arith in
    let b : y % 4 / 2 % 2 ≡ y / 2 % 2 = sym (ap (λ (k : ℕ). k % 2) h ∙ second (y / 4) (y % 4 / 2)) in
    let c : y / 2 / 2 ≡ y / 4 = omega arith in
    let r = mul_digits by_x n (by_x (by_x x)) (y / 4) in
    let p = if_one (y % 2) x in
    let q = if_one (y / 2 % 2) (by_x x) in
    ap (λ (k : ℕ). p ⊕ (q ⊕ mul_digits by_x n (by_x (by_x x)) k)) c
    ∙ sym (xor_assoc p q r)
    ∙ sym (ap₂ (λ (i j : ℕ). (if_one i x ⊕ (if_one j (by_x x) ⊕ 0)) ⊕ r) a b ∙ ap (λ (k : ℕ). (p ⊕ k) ⊕ r) (xor_zero_r q))

pub record Taken (t : List ℕ) (b sum y at : ℕ) : Type 0 where
  pub even : at % 4 ≡ 0
  pub most : at ≤ 128
  pub left : (a : ℕ) → t ≡ multiples_of a → sum ⊕ mul_digits by_x (64 - at / 2) (iter (at / 2) by_x a) y ≡ mul a b

pub taken_none : (t : List ℕ) (b : ℕ) → Taken t b 0 b 0
unfolding mul by_x iter
taken_none t b = record { even = refl; most = omega arith; left = λ a e. refl }

pub taken_more : {t : List ℕ} {b sum y at : ℕ} → at < 128 → Taken t b sum y at → Taken t b (sum ⊕ get_or t (at + y % 4) 0) (y / 4) (at + 4)
unfolding multiples_of iter
taken_more {t} {b} {sum} {y} {at} h k =
    let v = k.even in
    record {
      even = omega arith;
      most = omega arith;
      left =
          λ a e.
          let n = 62 - at / 2 in
          let X = iter (at / 2) by_x a in
          let now : 64 - at / 2 ≡ suc (suc (62 - at / 2)) = omega arith in
          let rest : 64 - (at + 4) / 2 ≡ 62 - at / 2 = omega arith in
          let up : (at + 4) / 2 ≡ suc (suc (at / 2)) = omega arith in
          let d : y % 4 < 4 = mod-lt y (lit< tt) in
          let entry : get_or t (at + y % 4) 0 ≡ mul_digits by_x 2 X (y % 4) =
          ap (λ (l : List ℕ). get_or l (at + y % 4) 0) e ∙ get_d-tab 128 (part a) (at + y % 4) (omega arith) ∙ part-is a at (y % 4) v d in
          ap₂ (λ (u w : ℕ). (sum ⊕ u) ⊕ w) entry (ap₂ (λ (i j : ℕ). mul_digits by_x i (iter j by_x a) (y / 4)) rest up)
          ∙ xor_assoc sum (mul_digits by_x 2 X (y % 4)) (mul_digits by_x n (by_x (by_x X)) (y / 4))
          ∙ ap (bit_xor sum) (sym (two_digits n X y) ∙ ap (λ (i : ℕ). mul_digits by_x i X y) (sym now))
          ∙ k.left a e;
    }

pub taken-all : {t : List ℕ} {b sum y at : ℕ} → 128 ≤ at → Taken t b sum y at → TimesBy t b sum
taken-all {t} {b} {sum} {y} {at} h k a e =
    let m = k.most in
    let none : 64 - at / 2 ≡ 0 = omega arith in
    sym (xor_zero_r sum) ∙ ap (λ (i : ℕ). sum ⊕ mul_digits by_x i (iter (at / 2) by_x a) y) (sym none) ∙ k.left a e
