-- What is printed is picked by the code: the figures one behind the other, or the number.
-- Assumes nothing.
use mathlib.Core.Path.{◌≡◌, refl, ap, sym, ◌∙◌, subst}
use mathlib.Core.Bool.{Bool, false}
use mathlib.Core.List.{List, ◌++◌}
use Prim.Native.Nat.{ℕ, ◌+◌, ◌≤◌}
use native.Mathlib.Omega.{arith}
use lib.Dec.{eqb}
use lib.ListN.{length, take, drop, length-append}
use lib.Seq.{length-take-le}
use borrow.Author.Tests.{eq-eqb, ne_eqb}
use Rattle.words.specs.Tests.{pick}
use Rattle.card_sizes.specs.Sizes.{line_count}
use Rattle.command.specs.Rows.{code_of}
use Rattle.text.specs.Text.{Behind, Written, figure, newline}
use Rattle.text.specs.declared.Text.{Text}
use Rattle.text.proofs.Pieces.{behind-start, written-more}
use Rattle.records.specs.Records.{uses}
use Rattle.traffic.specs.Traffic.{sum_of, on_line, by_cipher, every, sheet_rows, sheet_number, code_given}
use Rattle.traffic.specs.declared.SheetRefusal.{SheetRefusal}
use Rattle.traffic.specs.declared.SheetRefusal.TheVariants.{Length, Unknown, Total}
use Rattle.std.specs.Prelude.{Result, Ok, Err}
use Rattle.report.specs.Report.{cipher_count, figures, sheet_of, report_of, ReportLeaves}
use Rattle.report.specs.declared.Reported.{Reported}

-- no refusal has the number 0
not_none : (e : SheetRefusal) → eqb (sheet_number e) 0 ≡ false
not_none Length = refl
not_none Unknown = refl
not_none Total = refl

module _ (s : List ℕ) {a d : Text} (begins : a.len ≡ 0) where
  leaves : (j : Result (Unit {0}) SheetRefusal) → code_given j ≡ code_of (sheet_rows s) → (p : List ℕ) → p ≡ report_of s → Written p a d → ReportLeaves s a.out.now d.out.now (record { judged = j; written = d.len })
  leaves j coded p f w =
      let e = behind-start (subst (λ (x : ℕ). Behind p x a.out.now d.out.now d.len) begins w.behind) in
      record { code_is = coded; written_is = e.0 ∙ ap length f; out-is = e.1 ∙ ap (λ (x : List ℕ). x ++ drop d.len a.out.now) f }

  pub leaves-number : (e : SheetRefusal) {n : ℕ} → sheet_number e ≡ code_of (sheet_rows s) → n ≡ sheet_number e → Written (figure n newline) a d → ReportLeaves s a.out.now d.out.now (record { judged = Err e; written = d.len })
  unfolding report_of
  leaves-number e {n} coded k w =
      leaves (Err e) coded (figure n newline)
      (ap (λ (x : ℕ). figure x newline) k
      ∙ sym (ap (λ (x : Bool). pick x (sheet_of (uses s)) (figure (sheet_number e) newline)) (not_none e))
      ∙ ap (λ (k : ℕ). pick (eqb k 0) (sheet_of (uses s)) (figure k newline)) coded) w

  pub leaves-sheet : {b c : Text} {m : ℕ} → 0 ≡ code_of (sheet_rows s) → m ≡ sum_of every (uses s) → Written (figures on_line 0 line_count (uses s)) a b
      → Written (figures by_cipher 1 cipher_count (uses s)) b c → Written (figure m newline) c d → ReportLeaves s a.out.now d.out.now (record { judged = Ok tt; written = d.len })
  unfolding report_of sheet_of
  leaves-sheet {c = c} coded q h1 h2 h3 =
      leaves (Ok tt) coded (sheet_of (uses s))
      (ap (λ (k : ℕ). pick (eqb k 0) (sheet_of (uses s)) (figure k newline)) coded)
      (written-more (written-more h1 h2) (subst (λ (x : ℕ). Written (figure x newline) c d) q h3))

-- the text lies within the buffer
pub printed : {s before out : List ℕ} {r : Reported} → ReportLeaves s before out r → (r.written ≤ length out) × (r.written ≡ length (take r.written out))
printed {s} {before} {out} {r} p =
    let e = p.written_is in
    let l : length out ≡ length (report_of s) + length (drop r.written before) = ap length p.out-is ∙ length-append (report_of s) (drop r.written before) in
    let h : r.written ≤ length out = omega arith in
    (h, sym (length-take-le r.written out h))
