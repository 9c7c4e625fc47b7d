-- An effect that the number of a key and an IV may refuse: 7 and 16 are the rows in front of it, so it leaves a refusal where the number is not 0, and else what it leaves without them.
-- Assumes nothing.
use mathlib.Core.Path.{◌≡◌, refl, ap, sym, ◌∙◌}
use mathlib.Core.Bool.{Bool, true, false}
use mathlib.Core.List.{List}
use Prim.Native.Nat.{ℕ}
use native.Mathlib.Omega.{arith}
use Rattle.std.specs.Prelude.{Result, Err}
use Rattle.command.specs.declared.Refusal.{Refusal}
use Rattle.command.specs.Decode.{refusal_number}
use Rattle.command.proofs.Numbers.{refused}
use Rattle.machine.specs.Machine.{Effect, spare_used, blank_key}
use Rattle.card_keys.specs.Keys.{key_code, keyed_with}
use Rattle.card_keys.proofs.Spare.{code-used, code-blank, code-none, none-by}
use Rattle.card_outcome.specs.declared.Counts.{Counts}
use Rattle.card_outcome.specs.declared.Outcome.{Outcome}
use Rattle.card_outcome.specs.Outcomes.{refusal, outcome_for}
use Rattle.card_outcome.specs.Leaves.{EffectLeaves}
use Rattle.card_outcome.proofs.Laws.{given-true, given-false, given-refusal}

module _ (ws text out : List ℕ) where
  pub given-code : (e' : Effect) (c : ℕ) (key iv : List ℕ) {k : ℕ} {r : Outcome} → k ≡ key_code c key iv → (key_code c key iv ≡ 0 → ⊥) → r ≡ refusal k →
      EffectLeaves ws text out (keyed_with c key iv e') r ws out
  given-code e' c key iv {k} {r} e f g = by (spare_used c key iv) (blank_key c key) refl refl
    where
      says : {n : ℕ} → n ≡ key_code c key iv → r ≡ refusal n
      says h = g ∙ ap refusal (e ∙ sym h)

      by : (b d : Bool) → spare_used c key iv ≡ b → blank_key c key ≡ d → EffectLeaves ws text out (keyed_with c key iv e') r ws out
      by true d h l = given-true ws text out _ 7 _ h (given-refusal ws text out 7 (λ z. omega arith) (says (code-used c key iv h)))
      by false true h l =
          given-false ws text out _ 7 _ h
          (given-true ws text out _ 16 _ l (given-refusal ws text out 16 (λ z. omega arith) (says (code-blank c key iv h l))))
      by false false h l = absurd (f (sym (code-none c key iv h l)))

  pub given-unkeyed : (f : Effect) (c : ℕ) (key iv : List ℕ) {e : Refusal} {r : Result Counts Refusal} → refusal_number e ≡ key_code c key iv → r ≡ Err e →
      EffectLeaves ws text out (keyed_with c key iv f) (outcome_for r) ws out
  given-unkeyed f c key iv {e} h t = given-code f c key iv h (λ z. refused e (h ∙ z)) (ap outcome_for t)

  pub given-key : (e : Effect) (c : ℕ) (key iv : List ℕ) → key_code c key iv ≡ 0 → {r : Outcome} {ws' o : List ℕ} → EffectLeaves ws text out e r ws' o →
      EffectLeaves ws text out (keyed_with c key iv e) r ws' o
  given-key e c key iv z g = let n = none-by c key iv z in given-false ws text out _ 7 _ n.0 (given-false ws text out _ 16 _ n.1 g)
