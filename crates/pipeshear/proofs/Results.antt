-- What a call leaves, by how it ended: lengths that are wrong, or what the engine gave.
-- Assumes nothing.
use mathlib.Core.Path.{◌≡◌, refl, ap, ap₂, sym, ◌∙◌}
use mathlib.Core.Bool.{Bool, not}
use mathlib.Core.List.{List, [], ◌∷◌}
use Prim.Native.Nat.{ℕ}
use lib.Dec.{eqb}
use lib.ListN.{length}
use borrow.Author.Tests.{eq-eqb, ne_eqb}
use Rattle.words.specs.Tests.{pick}
use Rattle.card_sizes.specs.Sizes.{card_size}
use Rattle.machine.specs.Machine.{Call, card_step}
use Rattle.machine.specs.Calls.{CallBytes}
use Rattle.card_layout.specs.Words.{card_in}
use Rattle.card_outcome.specs.declared.Outcome.{Outcome}
use Rattle.card_outcome.specs.Outcomes.{outcome_of}
use Rattle.card_outcome.specs.Leaves.{CallLeaves}
use Rattle.pipeshear.specs.Calls.{Result, shown_as, result_of, EntryPromise}

module _ (ws : List ℕ) (a : Call) (counts : List ℕ) where
  -- of counts and of a card that are as long as they should be, or not
  abbrev result : Bool → Bool → Result
  result b c =
      pick (not b) (record { code = 255; words = ws; out = a.out; counts = counts })
      (pick (not c) (record { code = 255; words = ws; out = a.out; counts = 0 ∷ 0 ∷ 0 ∷ [] }) (shown_as (card_step (card_in ws) a) ws a.out))

  pub wrong-counts-is : (length counts ≡ 3 → ⊥) → result_of ws a counts ≡ record { code = 255; words = ws; out = a.out; counts = counts }
  unfolding result_of
  wrong-counts-is f = ap (λ (b : Bool). result b (eqb (length ws) card_size)) (ne_eqb (length counts) 3 f)

  pub wrong-card-is : length counts ≡ 3 → (length ws ≡ card_size → ⊥) → result_of ws a counts ≡ record { code = 255; words = ws; out = a.out; counts = 0 ∷ 0 ∷ 0 ∷ [] }
  unfolding result_of
  wrong-card-is n f = ap₂ result (eq-eqb (length counts) 3 n) (ne_eqb (length ws) card_size f)

  pub as-shown : length counts ≡ 3 → length ws ≡ card_size → result_of ws a counts ≡ shown_as (card_step (card_in ws) a) ws a.out
  unfolding result_of
  as-shown n m = ap₂ result (eq-eqb (length counts) 3 n) (eq-eqb (length ws) card_size m)

  module _ (b : CallBytes a) where
    pub wrong-counts : (length counts ≡ 3 → ⊥) → EntryPromise ws a counts 255 ws a.out counts
    wrong-counts f = record { result-is = sym (wrong-counts-is f); seen-is = λ n m. absurd (f n); size_is = refl; borrowed = b }

    pub wrong-card : length counts ≡ 3 → (length ws ≡ card_size → ⊥) → {counts' : List ℕ} → counts' ≡ 0 ∷ 0 ∷ 0 ∷ [] → EntryPromise ws a counts 255 ws a.out counts'
    wrong-card n f k =
        record {
          result-is = ap (λ (x : List ℕ). record { code = 255; words = ws; out = a.out; counts = x }) k ∙ sym (wrong-card-is n f);
          seen-is = λ n m. absurd (f m);
          size_is = refl;
          borrowed = b;
        }

    pub ran : length counts ≡ 3 → length ws ≡ card_size → {r : Outcome} {ws' out' counts' : List ℕ} → CallLeaves ws a r ws' out' → length ws' ≡ length ws →
        counts' ≡ r.used_command ∷ r.used_data ∷ r.written ∷ [] → EntryPromise ws a counts r.code ws' out' counts'
    unfolding shown_as outcome_of
    ran n m h l k =
        let c = k ∙ ap (λ (x : Outcome). x.used_command ∷ x.used_data ∷ x.written ∷ []) h.outcome-is in
        record {
          result-is = (λ j. record { code = (h.outcome-is j).code; words = h.words_are j; out = h.out-is j; counts = c j }) ∙ sym (as-shown n m);
          seen-is = λ _ _. h.card-is;
          size_is = l;
          borrowed = b;
        }
