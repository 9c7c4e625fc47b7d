-- A sheet balances: of records whose lines and ciphers there are, each is counted for one line and for one cipher, so the figures of the lines add up to the total, and so do those of the ciphers.
-- Assumes nothing.
use mathlib.Core.Path.{◌≡◌, refl, ap₂, sym, ◌∙◌}
use mathlib.Core.Bool.{Bool, true, false}
use mathlib.Core.List.{List, [], ◌∷◌}
use Prim.Native.Nat.{ℕ, zero, suc, ◌+◌, ◌≤◌, ◌<◌}
use native.Mathlib.Omega.{arith}
use lib.Arith.{lt_of_le-ne}
use lib.Dec.{eqb, leb, ltb}
use borrow.Author.Tests.{eqb-true, eqb-false, leb-true, ltb-false, not-false}
use Rattle.words.specs.Tests.{pick}
use Rattle.words.proofs.Tests.{both_left, both_right}
use Rattle.card_sizes.specs.Sizes.{line_count}
use Rattle.command.proofs.Rows.{either_left, either-right}
use Rattle.ciphers.specs.Table.{is_cipher}
use Rattle.records.specs.Records.{Use}
use Rattle.traffic.specs.Traffic.{sum_of, on_line, by_cipher, every, unknown, any_unknown}
use Rattle.report.specs.Report.{cipher_count}

-- the sums of k figures from v on, added up
abbrev pub added_up : (ℕ → Use → Bool) → (v k : ℕ) → List Use → ℕ
added_up test v zero us = 0
added_up test v (suc k) us = sum_of (test v) us + added_up test (suc v) k us

-- ---- one record

-- what a record that says x adds to the k figures from v on
abbrev adds : (x bytes v k : ℕ) → ℕ
adds x bytes v zero = 0
adds x bytes v (suc k) = pick (eqb x v) bytes 0 + adds x bytes (suc v) k

-- nothing to those above x
none_above : (x bytes v k : ℕ) → x < v → adds x bytes v k ≡ 0
none_above x bytes v zero h = refl
none_above x bytes v (suc k) h = by (eqb x v) refl (none_above x bytes (suc v) k (omega arith))
  where
    by : (b : Bool) → eqb x v ≡ b → adds x bytes (suc v) k ≡ 0 → pick b bytes 0 + adds x bytes (suc v) k ≡ 0
    by true e n = absurd (let z = eqb-true x v e in omega arith)
    by false e n = omega arith

-- and its bytes once to those among which x is
once : (x bytes v k : ℕ) → v ≤ x → x < v + k → adds x bytes v k ≡ bytes
once x bytes v zero h l = absurd (omega arith)
once x bytes v (suc k) h l = by (eqb x v) refl (λ w. once x bytes (suc v) k w (omega arith))
  where
    by : (b : Bool) → eqb x v ≡ b → (suc v ≤ x → adds x bytes (suc v) k ≡ bytes) → pick b bytes 0 + adds x bytes (suc v) k ≡ bytes
    by true e f = let z = eqb-true x v e in let n = none_above x bytes (suc v) k (omega arith) in omega arith
    by false e f = let n = f (lt_of_le-ne h (λ z. eqb-false x v e (sym z))) in omega arith

-- ---- all records

module _ (column : Use → ℕ) where
  abbrev has : ℕ → Use → Bool
  has i u = eqb (column u) i

  none-added : (v k : ℕ) → added_up has v k [] ≡ 0
  unfolding sum_of
  none-added v zero = refl
  none-added v (suc k) = let n = none-added (suc v) k in omega arith

  one_more : (u : Use) (us : List Use) (v k : ℕ) → added_up has v k (u ∷ us) ≡ adds (column u) u.bytes v k + added_up has v k us
  unfolding sum_of
  one_more u us v zero = refl
  one_more u us v (suc k) = let n = one_more u us (suc v) k in omega arith

  balanced : (v k : ℕ) → ((u : Use) → unknown u ≡ false → (v ≤ column u) × (column u < v + k)) → (us : List Use) → any_unknown us ≡ false → added_up has v k us ≡ sum_of every us
  unfolding any_unknown sum_of
  balanced v k f [] e = none-added v k
  balanced v k f (u ∷ us) e =
      let r = f u (either_left (unknown u) (any_unknown us) e) in
      one_more u us v k ∙ ap₂ ◌+◌ (once (column u) u.bytes v k r.0 r.1) (balanced v k f us (either-right (unknown u) (any_unknown us) e))

-- the figures of the lines
pub lines-balance : (us : List Use) → any_unknown us ≡ false → added_up on_line 0 line_count us ≡ sum_of every us
unfolding unknown
lines-balance us e = balanced (λ u. u.line) 0 line_count known us e
  where
    known : (u : Use) → unknown u ≡ false → (0 ≤ u.line) × (u.line < 8)
    known u h = let l = ltb-false 7 u.line (either_left (ltb 7 u.line) _ h) in (omega arith, omega arith)

-- and those of the ciphers
pub ciphers-balance : (us : List Use) → any_unknown us ≡ false → added_up by_cipher 1 cipher_count us ≡ sum_of every us
unfolding unknown
ciphers-balance us e = balanced (λ u. u.cipher) 1 cipher_count known us e
  where
    known : (u : Use) → unknown u ≡ false → (1 ≤ u.cipher) × (u.cipher < 7)
    known u h =
        let c : is_cipher u.cipher ≡ true = not-false _ (either-right (ltb 7 u.line) _ h) in
        let m = leb-true u.cipher 6 (both_right (leb 1 u.cipher) (leb u.cipher 6) c) in
        (leb-true 1 u.cipher (both_left (leb 1 u.cipher) (leb u.cipher 6) c), omega arith)
