-- A call of the card by value is one of the engine on the card's words.
-- Assumes nothing.
use mathlib.Core.Path.{ap}
use mathlib.Core.List.{List}
use Prim.Native.Nat.{ℕ}
use Rattle.machine.specs.Machine.{Call}
use Rattle.machine.specs.Calls.{CallBytes}
use Rattle.card_outcome.specs.declared.Outcome.{Outcome}
use Rattle.card_outcome.specs.Leaves.{CallLeaves}
use Rattle.card.specs.declared.Card.{Card}
use Rattle.card.specs.declared.Answer.{Answer}
use Rattle.card.specs.Ran.{answer_of, CallPromise}

module _ (c : Card) (a : Call) where
  pub promised : (r : Outcome) (ws o : List ℕ) → CallLeaves c.words a r ws o → CallBytes a → CallPromise c a (record { card = record { words = ws }; outcome = r }) o
  unfolding answer_of
  promised r ws o h b =
      record { answer-is = λ j. record { card = record { words = h.words_are j }; outcome = h.outcome-is j }; out-is = h.out-is; seen-is = h.card-is; borrowed = b }

  pub called : (r : Answer) (o : List ℕ) → CallPromise c a r o → CallLeaves c.words a r.outcome r.card.words o
  unfolding answer_of
  called r o h =
      record { outcome-is = ap (λ (x : Answer). x.outcome) h.answer-is; card-is = h.seen-is; words_are = ap (λ (x : Answer). x.card.words) h.answer-is; out-is = h.out-is }
