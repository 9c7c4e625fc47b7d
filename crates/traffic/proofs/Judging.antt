-- Which records are refused: a byte that is no line's or no cipher's, in any record, and the rows in their order.
-- Assumes nothing.
use mathlib.Core.Path.{◌≡◌, refl, ap, sym, ◌∙◌}
use mathlib.Core.Bool.{Bool, true, false, not}
use mathlib.Core.List.{List, [], ◌∷◌}
use Rattle.std.proofs.Common.{map, ◌||◌}
use Rattle.std.specs.List.{list_any}
use Prim.Native.Nat.{ℕ, zero, suc, ◌+◌, ◌-◌, ◌/◌, ◌%◌, ◌<◌, ◌≤◌, ◌^◌}
use native.Mathlib.Omega.{arith}
use lib.Dec.{eqb, leb, ltb}
use lib.ListN.{length, get_or}
use borrow.Author.Tests.{eq-eqb, ne_eqb, le-leb, lt-leb, leb-false, lt-ltb, le-ltb, ltb-true, ltb-false}
use Rattle.words.specs.Tests.{pick}
use Rattle.words.proofs.Tests.{both_true, both_false}
use Rattle.command.specs.Rows.{code_of, either}
use Rattle.command.proofs.Rows.{code-passed}
use Rattle.ciphers.specs.Table.{is_cipher}
use Rattle.records.specs.Records.{said, use_at, uses}
use Rattle.traffic.specs.Traffic.{sum_of, every, unknown, any_unknown, sheet_rows}

-- ---- a record

module _ (s : List ℕ) (at : ℕ) where
  pub line-over : 7 < get_or s at 0 → true ≡ unknown (use_at s at)
  unfolding unknown use_at
  line-over h = sym (ap (λ (b : Bool). either b (not (is_cipher (get_or s (at + 1) 0)))) (lt-ltb 7 (get_or s at 0) h))

  -- its line is known
  by-cipher : get_or s at 0 ≤ 7 → unknown (use_at s at) ≡ not (is_cipher (get_or s (at + 1) 0))
  unfolding unknown use_at
  by-cipher h = ap (λ (b : Bool). either b (not (is_cipher (get_or s (at + 1) 0)))) (le-ltb 7 (get_or s at 0) h)

  pub cipher-none : get_or s at 0 ≤ 7 → get_or s (at + 1) 0 ≡ 0 → true ≡ unknown (use_at s at)
  cipher-none h e = sym (by-cipher h ∙ ap (λ (c : ℕ). not (is_cipher c)) e)

  pub cipher-over : get_or s at 0 ≤ 7 → (get_or s (at + 1) 0 ≡ 0 → ⊥) → ltb 6 (get_or s (at + 1) 0) ≡ unknown (use_at s at)
  cipher-over h n = by (ltb 6 (get_or s (at + 1) 0)) refl
    where
      positive : (k : ℕ) → (k ≡ 0 → ⊥) → 1 ≤ k
      positive zero f = absurd (f refl)
      positive (suc k) f = omega arith

      by : (b : Bool) → ltb 6 (get_or s (at + 1) 0) ≡ b → b ≡ unknown (use_at s at)
      by true e = sym (by-cipher h ∙ ap not (both_false (leb 1 (get_or s (at + 1) 0)) _ (lt-leb (get_or s (at + 1) 0) 6 (ltb-true 6 (get_or s (at + 1) 0) e))))
      by false e =
          let one : 1 ≤ get_or s (at + 1) 0 = positive (get_or s (at + 1) 0) n in
          sym (by-cipher h ∙ ap not (both_true (le-leb 1 (get_or s (at + 1) 0) one) (le-leb (get_or s (at + 1) 0) 6 (ltb-false 6 (get_or s (at + 1) 0) e))))

-- ---- all records

-- a test of what a record says, as `any` gives it
pub any-said : (rs : List (List ℕ)) → list_any (λ r. unknown (said r)) rs ≡ any_unknown (map said rs)
unfolding any_unknown
any-said [] = refl
any-said (r ∷ rs) = ap (λ (b : Bool). unknown (said r) || b) (any-said rs) ∙ same (unknown (said r)) (any_unknown (map said rs))
  where
    same : (a b : Bool) → (a || b) ≡ either a b
    same true b = refl
    same false b = refl

-- ---- the rows

module _ (s : List ℕ) where
  -- the code by the three tests
  coded : {a b d : Bool} → either (not (eqb (length s % 10) 0)) (ltb 40960 (length s)) ≡ a → any_unknown (uses s) ≡ b → leb (2 ^ 64) (sum_of every (uses s)) ≡ d →
      pick a 20 (pick b 21 (pick d 22 0)) ≡ code_of (sheet_rows s)
  coded e f g = sym (λ i. pick (e i) 20 (pick (f i) 21 (pick (g i) 22 0)))

  pub code-uneven : (length s % 10 ≡ 0 → ⊥) → 20 ≡ code_of (sheet_rows s)
  code-uneven h = coded {a = true} (ap (λ (b : Bool). either (not b) (ltb 40960 (length s))) (ne_eqb (length s % 10) 0 h)) refl refl

  module _ (whole : length s % 10 ≡ 0) where
    by_length : {b : Bool} → ltb 40960 (length s) ≡ b → either (not (eqb (length s % 10) 0)) (ltb 40960 (length s)) ≡ b
    by_length e = λ i. either (not (eq-eqb (length s % 10) 0 whole i)) (e i)

    pub code-long : 40960 < length s → 20 ≡ code_of (sheet_rows s)
    code-long h = coded (by_length (lt-ltb 40960 (length s) h)) refl refl

    module _ (few : length s ≤ 40960) where
      fits : either (not (eqb (length s % 10) 0)) (ltb 40960 (length s)) ≡ false
      fits = by_length (le-ltb 40960 (length s) few)

      pub code-unknown : any_unknown (uses s) ≡ true → 21 ≡ code_of (sheet_rows s)
      code-unknown f = coded fits f refl

      pub code-over : any_unknown (uses s) ≡ false → leb (2 ^ 64) (sum_of every (uses s)) ≡ true → 22 ≡ code_of (sheet_rows s)
      code-over f g = coded fits f g

      pub code-none : any_unknown (uses s) ≡ false → leb (2 ^ 64) (sum_of every (uses s)) ≡ false → 0 ≡ code_of (sheet_rows s)
      code-none f g = coded fits f g

-- what a sheet that is not refused has: a total below 2^64
pub total-fits : (s : List ℕ) → code_of (sheet_rows s) ≡ 0 → sum_of every (uses s) < 2 ^ 64
total-fits s e = leb-false (2 ^ 64) (sum_of every (uses s)) (code-passed (sheet_rows s) tt e).1.1.0
