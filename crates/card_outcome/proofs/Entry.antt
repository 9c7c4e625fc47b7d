-- The entry: what a command that is read gives, a command that is refused and a card that is damaged are the card's step.
-- Assumes nothing.
use mathlib.Core.Path.{◌≡◌, refl, ap, sym, subst, ◌∙◌}
use mathlib.Core.Bool.{Bool, false}
use mathlib.Core.List.{List, []}
use Prim.Native.Nat.{ℕ}
use Rattle.std.specs.Prelude.{Result}
use Rattle.words.specs.Tests.{pick}
use Rattle.command.specs.declared.Command.{Command}
use Rattle.command.specs.declared.Refusal.{Refusal}
use Rattle.command.specs.Decode.{decode_of}
use Rattle.machine.specs.Machine.{Call, Shown, back, public, card_ok, of_decoded, decide, answer, perform, step, shows, card_step}
use Rattle.card_layout.specs.Words.{card_in, Sound}
use Rattle.card_outcome.specs.declared.Outcome.{Outcome}
use Rattle.card_outcome.specs.Outcomes.{refusal, outcome_of}
use Rattle.card_outcome.specs.Leaves.{out_of, words_of, public_of, Leaves, EffectLeaves, CallLeaves}

module _ (ws : List ℕ) (a : Call) where
  pub answers : Sound ws → (d : Result Command Refusal) → decode_of a.command ≡ d → {r : Outcome} {ws' o : List ℕ} →
      EffectLeaves ws a.text a.out (of_decoded d (public_of ws) a) r ws' o → CallLeaves ws a r ws' o
  unfolding card_step step decide public_of
  answers h d e {r} {ws'} {o} g =
      let E : card_step (card_in ws) a ≡ shows (perform (back (card_in ws)) a.text (of_decoded d (public (back (card_in ws))) a)) =
      ap (λ (b : Bool). pick b (shows (step (back (card_in ws)) a)) (record { outcome = answer 255 0 0 []; card = card_in ws })) h.ok
      ∙ ap (λ (x : Result Command Refusal). shows (perform (back (card_in ws)) a.text (of_decoded x (public (back (card_in ws))) a))) e in
      subst (λ (x : Shown). Leaves x ws a.out r ws' o) (sym E) g

  pub damaged : card_ok (card_in ws) ≡ false → {r : Outcome} → r ≡ refusal 255 → CallLeaves ws a r ws a.out
  unfolding card_step outcome_of out_of words_of
  damaged h {r} e =
      let E : card_step (card_in ws) a ≡ record { outcome = answer 255 0 0 []; card = card_in ws } =
      ap (λ (b : Bool). pick b (shows (step (back (card_in ws)) a)) (record { outcome = answer 255 0 0 []; card = card_in ws })) h in
      subst (λ (x : Shown). Leaves x ws a.out r ws a.out) (sym E) (record { outcome-is = e; card-is = refl; words_are = refl; out-is = refl })
