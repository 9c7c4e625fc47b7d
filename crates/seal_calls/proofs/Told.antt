-- What the pair leaves: nothing where an array has not its length, and else what sealing and opening answer.
-- Assumes nothing.
use mathlib.Core.Path.{◌≡◌, refl, ap, sym, subst, ◌∙◌}
use mathlib.Core.Bool.{Bool, true, false}
use mathlib.Core.List.{List, [], ◌∷◌}
use Prim.Native.Nat.{ℕ}
use lib.ListN.{length}
use Rattle.std.specs.Prelude.{Result}
use Rattle.command.specs.declared.Refusal.{Refusal}
use Rattle.command.specs.Decode.{refusal_of}
use Rattle.sealing_rules.specs.Sealing.{Outcome, seal_of, unseal_of}
use Rattle.sealing_rules.specs.Answer.{written_of, Answered}
use Rattle.seal_calls.specs.Seals.{left_by, Told}

module _ (o : Outcome) (out written : List ℕ) where
  pub told_none : {ok : Bool} → ok ≡ false → Told ok o out written 255 out written
  unfolding left_by
  told_none e =
      record {
        code_is = sym (ap (λ (b : Bool). (left_by b o out written).code) e);
        out-is = sym (ap (λ (b : Bool). (left_by b o out written).out) e);
        written_is = sym (ap (λ (b : Bool). (left_by b o out written).written) e);
      }

  pub told : {ok : Bool} {r : Result ℕ Refusal} {out' : List ℕ} {code : ℕ} {written' : List ℕ} → ok ≡ true → code ≡ refusal_of r → written' ≡ written_of r ∷ [] → Answered o out r out'
      → Told ok o out written code out' written'
  unfolding left_by
  told e ec en a =
      record {
        code_is = ec ∙ a.code_is ∙ sym (ap (λ (b : Bool). (left_by b o out written).code) e);
        out-is = a.out-is ∙ sym (ap (λ (b : Bool). (left_by b o out written).out) e);
        written_is = en ∙ ap (λ (k : ℕ). k ∷ []) a.count-is ∙ sym (ap (λ (b : Bool). (left_by b o out written).written) e);
      }

-- what is answered for arrays is answered for the bytes that they hold
module _ (c : ℕ) (m out : List ℕ) {k v r key iv red : List ℕ} {a : Result ℕ Refusal} {out' : List ℕ} (ek : k ≡ key) (ev : v ≡ iv) (er : r ≡ red) where
  pub of-arrays-seal : Answered (seal_of c k v r m (length out)) out a out' → Answered (seal_of c key iv red m (length out)) out a out'
  of-arrays-seal h = subst (λ (o : Outcome). Answered o out a out') (λ j. seal_of c (ek j) (ev j) (er j) m (length out)) h

  pub of-arrays-open : Answered (unseal_of c k v r m (length out)) out a out' → Answered (unseal_of c key iv red m (length out)) out a out'
  of-arrays-open h = subst (λ (o : Outcome). Answered o out a out') (λ j. unseal_of c (ek j) (ev j) (er j) m (length out)) h
