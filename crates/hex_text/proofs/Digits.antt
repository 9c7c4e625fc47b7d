-- Digits that are written from the last on: those that are left to write, and behind them what is written, are all of them.
-- Assumes nothing.
use mathlib.Core.Path.{◌≡◌, refl, ap, ap₂, sym, ◌∙◌}
use mathlib.Core.List.{List, [], ◌∷◌, ◌++◌, append_assoc, append-nil}
use Prim.Native.Nat.{ℕ, zero, suc, ◌-◌, ◌/◌, ◌%◌, ◌<◌, ◌≤◌}
use native.Mathlib.Nat.{not-suc-le-zero}
use native.Mathlib.Numerals.{add-one, sub-one}
use native.Mathlib.Omega.{arith}
use lib.ListN.{length, drop, set, length-append, length-set}
use lib.Seq.{drop-cons, drop-length, drop-set-lt, get_or-set_same}
use Rattle.hex_text.specs.Hex.{digit_of, hexadecimal}

-- there are w digits
pub digits-count : (w n : ℕ) → length (hexadecimal w n) ≡ w
unfolding hexadecimal
digits-count zero n = refl
digits-count (suc w) n =
    length-append (hexadecimal w (n / 16)) (digit_of (n % 16) ∷ []) ∙ add-one (length (hexadecimal w (n / 16))) ∙ ap suc (digits-count w (n / 16))

-- of n's digits in the places of before, all but the first `left` are written to out; the others are those of rest
pub record Spelling (n : ℕ) (before out : List ℕ) (left rest : ℕ) : Type 0 where
  pub same : length out ≡ length before
  pub within : left ≤ length before
  pub is : hexadecimal left rest ++ drop left out ≡ hexadecimal (length before) n

pub spelling-none : {n : ℕ} {before : List ℕ} → Spelling n before before (length before) n
spelling-none {n} {before} =
    record {
      same = refl;
      within = omega arith;
      is = ap (λ (l : List ℕ). hexadecimal (length before) n ++ l) (drop-length before) ∙ append-nil (hexadecimal (length before) n);
    }

-- one digit more
pub spelling-more : (left : ℕ) {n rest d : ℕ} {before out : List ℕ} → 0 < left → d ≡ digit_of (rest % 16) → Spelling n before out left rest →
    Spelling n before (set out (left - 1) d) (left - 1) (rest / 16)
unfolding hexadecimal
spelling-more zero h e s = absurd (not-suc-le-zero h)
spelling-more (suc k) {n} {rest} {d} {before} {out} h e s =
    let i : k < length out = omega (arith, s.same, s.within) in
    let stored : drop k (set out k d) ≡ digit_of (rest % 16) ∷ drop (suc k) out =
    drop-cons (set out k d) k 0 (omega (arith, length-set out k d))
    ∙ ap₂ ◌∷◌ (get_or-set_same out k d 0 i ∙ e) (drop-set-lt (suc k) out k d (omega arith)) in
    record {
      same = length-set out (suc k - 1) d ∙ s.same;
      within = omega (arith, s.within);
      is =
          rw (sub-one (suc k))
          (ap (λ (l : List ℕ). hexadecimal k (rest / 16) ++ l) stored
          ∙ sym (append_assoc (hexadecimal k (rest / 16)) (digit_of (rest % 16) ∷ []) (drop (suc k) out))
          ∙ s.is);
    }

-- none is left
pub spelling-all : (left : ℕ) {n rest : ℕ} {before out : List ℕ} → left ≤ 0 → Spelling n before out left rest → out ≡ hexadecimal (length before) n
unfolding hexadecimal
spelling-all zero h s = s.is
spelling-all (suc k) h s = absurd (not-suc-le-zero h)
