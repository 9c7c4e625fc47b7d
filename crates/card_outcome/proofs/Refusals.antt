-- A refusal leaves the card's words and out as they were and counts nothing, on every card; and every number is 255 or one of document 01's.
-- Assumes nothing.
use mathlib.Core.Path.{◌≡◌, refl, ap, sym, subst, ◌∙◌}
use mathlib.Core.Bool.{Bool}
use mathlib.Core.List.{List, []}
use Prim.Native.Nat.{ℕ}
use borrow.Author.Tests.{ne_eqb}
use Rattle.words.specs.Tests.{pick}
use Rattle.machine.specs.Machine.{Machine, Seen, Call, Reply, Effect, refuse, put, crypt, park, resume, change, start, answer, perform, decide, public, back, step, card_step}
use Rattle.machine.proofs.Codes.{of-card, code-small}
use Rattle.card_layout.specs.Words.{card_in, card_words}
use Rattle.card_outcome.specs.declared.Outcome.{Outcome}
use Rattle.card_outcome.specs.Outcomes.{refusal, outcome_of, Code, listed, damaged}
use Rattle.card_outcome.specs.Leaves.{out_of, words_of, CallLeaves, Untouched}

-- an outcome that is not 0 has three zeros
abbrev Zeros : Reply → Type 0
Zeros o = (o.code ≡ 0 → ⊥) → o ≡ answer o.code 0 0 []

performed : (m : Machine) (text : List ℕ) (e : Effect) → Zeros (perform m text e).outcome
performed m text (refuse k) f = refl
performed m text (put i l size) f = absurd (f refl)
performed m text (crypt i n size) f = absurd (f refl)
performed m text (park i size) f = absurd (f refl)
performed m text (resume i l k size) f = absurd (f refl)
performed m text (change i p s size) f = absurd (f refl)
performed m text (start i iv size) f = absurd (f refl)

zeros : (c : Seen) (a : Call) → Zeros (card_step c a).outcome
unfolding step
zeros c a = of-card (λ x. Zeros x.outcome) c a (λ f. refl) (performed (back c) a.text (decide (public (back c)) a))

module _ (ws : List ℕ) (a : Call) {r : Outcome} {ws' o : List ℕ} (h : CallLeaves ws a r ws' o) where
  code_is : r.code ≡ (card_step (card_in ws) a).outcome.code
  unfolding outcome_of
  code_is = ap (λ (x : Outcome). x.code) h.outcome-is

  -- A refusal returns the card and out unchanged and three zeros, whatever card was handed in.
  pub refused-whole : (r.code ≡ 0 → ⊥) → Untouched ws a.out r ws' o
  unfolding outcome_of out_of words_of
  refused-whole f =
      let s = card_step (card_in ws) a in
      let g : s.outcome.code ≡ 0 → ⊥ = λ e. f (code_is ∙ e) in
      let z = zeros (card_in ws) a g in
      record {
        outcome-is = h.outcome-is ∙ ap outcome_of z ∙ ap refusal (sym code_is);
        words_are = h.words_are ∙ ap (λ (b : Bool). pick b (card_words s.card) ws) (ne_eqb s.outcome.code 0 g);
        out-is = h.out-is ∙ ap (λ (x : Reply). out_of (record { outcome = x; card = s.card }) a.out) z;
      }

  -- Every code is 0, one of document 01's numbers, or 255.
  pub numbered : Code r.code
  numbered = subst Code (sym code_is) (of-card (λ x. Code x.outcome.code) (card_in ws) a damaged (listed (code-small (back (card_in ws)) a)))
