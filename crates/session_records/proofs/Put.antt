-- What is put is what is recorded: nothing where the code is not 0 or the command is no crypt, else the record of its line.
-- Assumes nothing.
use mathlib.Core.Path.{◌≡◌, ap, sym, subst}
use mathlib.Core.Bool.{Bool, true, false}
use mathlib.Core.List.{List, []}
use Prim.Native.Nat.{ℕ, ◌+◌, ◌≤◌}
use native.Mathlib.Omega.{arith}
use lib.Dec.{eqb}
use lib.ListN.{length, get_or}
use borrow.Author.Tests.{eq-eqb, ne_eqb}
use Rattle.words.specs.Tests.{both, pick}
use Rattle.machine.specs.Machine.{Seen}
use Rattle.machine.specs.Calls.{line_on}
use Rattle.text.specs.Text.{Room, Written}
use Rattle.text.specs.declared.Text.{Text}
use Rattle.text.proofs.Pieces.{written-none}
use Rattle.records.specs.Records.{record_of}
use Rattle.session_records.specs.Recorded.{record_for}

module _ (code : ℕ) (command : List ℕ) (c : Seen) (used : ℕ) where
  -- by whether it is an accepted crypt
  record-by : (b : Bool) → both (eqb code 0) (eqb (get_or command 0 0) 3) ≡ b → record_for code command c used ≡ pick b (record_of (get_or command 1 0) (line_on c (get_or command 1 0)).cipher used) []
  unfolding record_for
  record-by b e = ap (λ (x : Bool). pick x (record_of (get_or command 1 0) (line_on c (get_or command 1 0)).cipher used) []) e

  module _ {a : Text} (room : Room 10 a) where
    nothing : both (eqb code 0) (eqb (get_or command 0 0) 3) ≡ false → Written (record_for code command c used) a a
    nothing e = subst (λ (p : List ℕ). Written p a a) (sym (record-by false e)) (written-none (omega arith))

    pub put_refused : (code ≡ 0 → ⊥) → Written (record_for code command c used) a a
    put_refused h = nothing (ap (λ (b : Bool). both b (eqb (get_or command 0 0) 3)) (ne_eqb code 0 h))

    pub put_other : code ≡ 0 → (get_or command 0 0 ≡ 3 → ⊥) → Written (record_for code command c used) a a
    put_other h k = nothing (λ i. both (eq-eqb code 0 h i) (ne_eqb (get_or command 0 0) 3 k i))

  pub put-crypt : {n : ℕ} {a b : Text} → code ≡ 0 → get_or command 0 0 ≡ 3 → n ≡ (line_on c (get_or command 1 0)).cipher →
      Written (record_of (get_or command 1 0) n used) a b → Written (record_for code command c used) a b
  put-crypt {n} {a} {b} h k e w =
      subst (λ (p : List ℕ). Written p a b) (sym (record-by true (λ i. both (eq-eqb code 0 h i) (eq-eqb (get_or command 0 0) 3 k i))))
      (subst (λ (x : ℕ). Written (record_of (get_or command 1 0) x used) a b) e w)
