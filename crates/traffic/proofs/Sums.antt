-- Sums over records: what was added, and what the records that are left add, is what all add. A sum over some records is at most the sum over all.
-- Assumes nothing.
use mathlib.Core.Path.{◌≡◌, refl, ap, sym, ◌∙◌}
use mathlib.Core.Bool.{Bool, true, false}
use mathlib.Core.List.{List, [], ◌∷◌, ◌++◌}
use Prim.Native.Nat.{ℕ, zero, suc, ◌+◌, ◌-◌, ◌*◌, ◌/◌, ◌<◌, ◌≤◌, ◌^◌}
use native.Mathlib.Nat.{add_assoc, add-zero, zero-add, not-suc-le-zero, le_of_suc-le-suc}
use native.Mathlib.Omega.{arith}
use lib.Dec.{eqb}
use lib.ListN.{length, get_or, drop}
use Rattle.std.proofs.Common.{map, Option, Some, None}
use Rattle.std.proofs.lemmas.List.{drop_more, drop_all}
use borrow.Author.Tests.{eq-eqb, ne_eqb, le-leb, lt-leb}
use Rattle.words.specs.Tests.{pick}
use Rattle.records.specs.Records.{Use, records_of, said, uses}
use Rattle.records.proofs.Reading.{records-append, Fit, fit_append, uses-back}
use Rattle.traffic.specs.Traffic.{sum_of, every, in_column, column_number, column_value, total_of}
use Rattle.traffic.specs.declared.Column.{Column}
use Rattle.traffic.specs.declared.Column.TheVariants.{Line, Cipher}

-- ---- sums

-- a sum of some is at most the sum of all
pub sum-most : (p : Use → Bool) (us : List Use) → sum_of p us ≤ sum_of every us
unfolding sum_of
sum-most p [] = omega arith
sum-most p (u ∷ us) = let h = sum-most p us in let k = part (p u) in omega arith
  where
    part : (b : Bool) → pick b u.bytes 0 ≤ u.bytes
    part true = omega arith
    part false = omega arith

-- a sum over records behind records is the sum over the first and that over the others
pub sum-append : (p : Use → Bool) (us vs : List Use) → sum_of p (us ++ vs) ≡ sum_of p us + sum_of p vs
unfolding sum_of
sum-append p [] vs = sym (zero-add (sum_of p vs))
sum-append p (u ∷ us) vs = ap (λ (n : ℕ). pick (p u) u.bytes 0 + n) (sum-append p us vs) ∙ sym (add_assoc (pick (p u) u.bytes 0) (sum_of p us) (sum_of p vs))

-- so what is read of records behind records is the sum of what both were made of
pub sum-of-both : (p : Use → Bool) {us vs : List Use} → Fit us → Fit vs → sum_of p (uses (records_of us ++ records_of vs)) ≡ sum_of p us + sum_of p vs
sum-of-both p {us} {vs} h k =
    ap (λ (s : List ℕ). sum_of p (uses s)) (sym (records-append us vs)) ∙ ap (sum_of p) (uses-back (us ++ vs) (fit_append h k)) ∙ sum-append p us vs

-- what a record adds
abbrev pub part : (Use → Bool) → Use → ℕ
part p u = pick (p u) u.bytes 0

-- n, and what the records from place i on add, is what all add
pub record Summing (p : Use → Bool) (n : ℕ) (rs : List (List ℕ)) (i : ℕ) : Type 0 where
  pub still : n + sum_of p (map said (drop i rs)) ≡ sum_of p (map said rs)

pub summing-all : (p : Use → Bool) (rs : List (List ℕ)) → Summing p 0 rs 0
summing-all p rs = record { still = zero-add (sum_of p (map said rs)) }

module _ {p : Use → Bool} {n : ℕ} {rs : List (List ℕ)} {i : ℕ} (k : Summing p n rs i) where
  summing-next : i < length rs → n + (part p (said (get_or rs i [])) + sum_of p (map said (drop (i + 1) rs))) ≡ sum_of p (map said rs)
  unfolding sum_of
  summing-next h = sym (ap (λ (l : List (List ℕ)). n + sum_of p (map said l)) (drop_more rs i [] h)) ∙ k.still

  pub summing_on : {m : ℕ} → i < length rs → m ≡ part p (said (get_or rs i [])) → Summing p (n + m) rs (i + 1)
  summing_on {m} h e =
      record {
        still =
            add_assoc n m (sum_of p (map said (drop (i + 1) rs)))
            ∙ ap (λ (x : ℕ). n + (x + sum_of p (map said (drop (i + 1) rs)))) e
            ∙ summing-next h;
      }

  -- what is summed is at most the sum
  pub summing-most : {m : ℕ} → i < length rs → m ≡ part p (said (get_or rs i [])) → n + m ≤ sum_of p (map said rs)
  summing-most h e = let q = summing-next h in omega (arith, e)

  pub summing-none : length rs ≤ i → n ≡ sum_of p (map said rs)
  unfolding sum_of
  summing-none h = sym (add-zero n) ∙ sym (ap (λ (l : List (List ℕ)). n + sum_of p (map said l)) (drop_all i rs h)) ∙ k.still

-- ---- a record by its columns

column-test : (c : Column) (v : ℕ) (u : Use) → in_column (column_number c) v u ≡ eqb (column_value c u) v
column-test Line v u = refl
column-test Cipher v u = refl

module _ (c : Column) (u : Use) {x v : ℕ} (e : x ≡ column_value c u) where
  pub is-counted : {n : ℕ} → x ≡ v → n ≡ u.bytes → n ≡ part (in_column (column_number c) v) u
  is-counted h k = k ∙ sym (ap (λ (b : Bool). pick b u.bytes 0) (column-test c v u ∙ eq-eqb (column_value c u) v (sym e ∙ h)))

  pub not-counted : (x ≡ v → ⊥) → 0 ≡ part (in_column (column_number c) v) u
  not-counted h = sym (ap (λ (b : Bool). pick b u.bytes 0) (column-test c v u ∙ ne_eqb (column_value c u) v (λ k. h (e ∙ k))))

-- ---- the total

pub total-over : {all : ℕ} → 2 ^ 64 ≤ all → None ≡ total_of all
total-over {all} h = sym (ap (λ (b : Bool). pick b None (Some all)) (le-leb (2 ^ 64) all h))

pub total-below : {all sum : ℕ} → sum ≡ all → sum < 2 ^ 64 → Some sum ≡ total_of all
total-below {all} {sum} e h = ap Some e ∙ sym (ap (λ (b : Bool). pick b None (Some all)) (lt-leb (2 ^ 64) all (rw e at h)))
