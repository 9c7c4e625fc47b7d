-- Figures gather one behind the other, each in 21 bytes at most.
-- Assumes nothing.
use mathlib.Core.Path.{◌≡◌, refl, ap, ap₂, sym, ◌∙◌, subst}
use mathlib.Core.Bool.{Bool}
use mathlib.Core.List.{List, [], ◌++◌}
use Prim.Native.Nat.{ℕ, zero, suc, ◌+◌, ◌-◌, ◌*◌, ◌<◌, ◌≤◌}
use native.Mathlib.Nat.{not-suc-le-zero}
use native.Mathlib.Numerals.{add-one, sub-one}
use native.Mathlib.Omega.{arith}
use lib.ListN.{length}
use Rattle.text.specs.Text.{Behind, figure, newline}
use Rattle.text.proofs.Digits.{figure-most}
use Rattle.text.proofs.Pieces.{behind-length, Gathering, gather_none, gather-more, gather-all}
use Rattle.records.specs.Records.{Use}
use Rattle.traffic.specs.Traffic.{sum_of}
use Rattle.report.specs.Report.{figures}

next-figure : (test : ℕ → Use → Bool) (v left : ℕ) (us : List Use) → 0 < left → figures test v left us ≡ figure (sum_of (test v) us) newline ++ figures test (v + 1) (left - 1) us
unfolding figures
next-figure test v zero us h = absurd (not-suc-le-zero h)
next-figure test v (suc k) us h = ap₂ (λ (x y : ℕ). figure (sum_of (test v) us) newline ++ figures test x y us) (sym (add-one v)) (sym (sub-one (suc k)))

no-figure : (test : ℕ → Use → Bool) (v left : ℕ) (us : List Use) → left ≤ 0 → figures test v left us ≡ []
unfolding figures
no-figure test v zero us h = refl
no-figure test v (suc k) us h = absurd (not-suc-le-zero h)

-- all figures but those of left values from v on stand behind the first at₀ bytes, up to at
pub record Putting (test : ℕ → Use → Bool) (first count : ℕ) (us : List Use) (at₀ : ℕ) (before out : List ℕ) (at v left : ℕ) : Type 0 where
  pub room : at₀ + 21 * count ≤ length before
  pub values : v + left ≡ first + count
  pub most : at + 21 * left ≤ at₀ + 21 * count
  pub gathered : Gathering (figures test first count us) (figures test v left us) at₀ before out at

pub putting-none : {test : ℕ → Use → Bool} {first count : ℕ} {us : List Use} {at : ℕ} {before : List ℕ} → at + 21 * count ≤ length before →
    Putting test first count us at before before at first count
putting-none h = record { room = h; values = refl; most = omega arith; gathered = gather_none (omega arith) }

pub putting-as : {test : ℕ → Use → Bool} {first count : ℕ} {us : List Use} {at₀ : ℕ} {before out : List ℕ} {at v left left' : ℕ} → left ≡ left' →
    Putting test first count us at₀ before out at v left → Putting test first count us at₀ before out at v left'
putting-as {test} {first} {count} {us} {at₀} {before} {out} {at} {v} e p = subst (λ (k : ℕ). Putting test first count us at₀ before out at v k) e p

module _ {test : ℕ → Use → Bool} {first count : ℕ} {us : List Use} {at₀ : ℕ} {before mid : List ℕ} {at v left : ℕ} (p : Putting test first count us at₀ before mid at v left) where
  pub putting-same : length mid ≡ length before
  putting-same = behind-length p.gathered.behind

  pub putting-room : 0 < left → at + 21 ≤ length mid
  putting-room h = let s = putting-same in let m = p.most in let r = p.room in omega arith

  pub putting-more : {n r : ℕ} {out : List ℕ} → 0 < left → n ≡ sum_of (test v) us → Behind (figure n newline) at mid out r →
      Putting test first count us at₀ before out r (v + 1) (left - 1)
  putting-more {n} {r} {out} h e b =
      let f = b.end in
      let k = figure-most n newline in
      let m = p.most in
      let w = p.values in
      record {
        room = p.room;
        values = omega arith;
        most = omega arith;
        gathered =
            gather-more
            (subst (λ (x : List ℕ). Gathering (figures test first count us) x at₀ before mid at)
            (next-figure test v left us h ∙ ap (λ (x : ℕ). figure x newline ++ figures test (v + 1) (left - 1) us) (sym e)) p.gathered)
            b;
      }

  pub putting-all : left ≤ 0 → Behind (figures test first count us) at₀ before mid at
  putting-all h = gather-all (subst (λ (x : List ℕ). Gathering (figures test first count us) x at₀ before mid at) (no-figure test v left us h) p.gathered)
