-- Every call on the words of a card that a list of calls leads to has an answer as it is promised: what is promised of calls is never empty.
-- Assumes nothing.
use mathlib.Core.Path.{◌≡◌, refl, ap, sym, ◌∙◌}
use mathlib.Core.Bool.{Bool, true, false}
use mathlib.Core.List.{List, [], ◌∷◌}
use Prim.Native.Nat.{ℕ}
use lib.Dec.{eqb}
use lib.ListN.{length, length-set, replicate}
use borrow.Author.Tests.{eqb-false}
use Rattle.words.specs.Tests.{pick}
use Rattle.card_sizes.specs.Sizes.{line_count, card_size}
use Rattle.machine.specs.Machine.{Machine, Seen, Shown, Call, Effect, refuse, put, crypt, park, resume, change, start, idle, seen, shows, public, decide, perform, step, card_step, fresh_machine}
use Rattle.machine.specs.Calls.{Made, made_of, calls_of, CallBytes}
use Rattle.machine.proofs.Simulation.{GoodCard, step_same, step-good, fresh-good, fresh-seen}
use Rattle.card_layout.specs.Words.{card_in, card_words}
use Rattle.card_layout.proofs.Cards.{fresh-words}
use Rattle.card_layout.proofs.Back.{seen_read, seen-length}
use Rattle.card_outcome.specs.Outcomes.{outcome_of}
use Rattle.card_outcome.specs.Leaves.{out_of, words_of, CallLeaves}

-- words that hold what is seen of a machine that a list of calls leads to
pub record Stored (m : Machine) (ws : List ℕ) : Type 0 where
  pub good : GoodCard m
  pub eight : length m.lines ≡ line_count
  pub card : card_in ws ≡ seen m
  pub size : length ws ≡ card_size

module _ {m : Machine} {ws : List ℕ} (t : Stored m ws) (a : Call) (b : CallBytes a) where
  abbrev after : Shown
  after = card_step (card_in ws) a

  same : after ≡ shows (step m a)
  same = ap (λ (c : Seen). card_step c a) t.card ∙ step_same m t.good a b

  eight-on : (e : Effect) → length (perform m a.text e).machine.lines ≡ line_count
  eight-on (refuse k) = t.eight
  eight-on (put i l size) = length-set m.lines i l ∙ t.eight
  eight-on (crypt i n size) = length-set m.lines i _ ∙ t.eight
  eight-on (park i size) = length-set m.lines i idle ∙ t.eight
  eight-on (resume i l k size) = length-set m.lines i l ∙ t.eight
  eight-on (change i p s size) = length-set m.lines i _ ∙ t.eight
  eight-on (start i iv size) = length-set m.lines i _ ∙ t.eight

  eight-next : length (step m a).machine.lines ≡ line_count
  unfolding step
  eight-next = eight-on (decide (public m) a)

  kept_by : (e : Effect) → ((perform m a.text e).outcome.code ≡ 0 → ⊥) → seen m ≡ seen (perform m a.text e).machine
  kept_by (refuse k) f = refl
  kept_by (put i l size) f = absurd (f refl)
  kept_by (crypt i n size) f = absurd (f refl)
  kept_by (park i size) f = absurd (f refl)
  kept_by (resume i l k size) f = absurd (f refl)
  kept_by (change i p s size) f = absurd (f refl)
  kept_by (start i iv size) f = absurd (f refl)

  kept : ((step m a).outcome.code ≡ 0 → ⊥) → seen m ≡ seen (step m a).machine
  unfolding step
  kept f = kept_by (decide (public m) a) f

  -- the words after a call hold the card that its step shows
  card-next : card_in (words_of after ws) ≡ after.card
  unfolding words_of
  card-next = ap (λ (s : Shown). card_in (pick (eqb s.outcome.code 0) (card_words s.card) ws)) same ∙ by (eqb (step m a).outcome.code 0) refl ∙ sym (ap (λ (s : Shown). s.card) same)
    where
      by : (x : Bool) → eqb (step m a).outcome.code 0 ≡ x → card_in (pick x (card_words (seen (step m a).machine)) ws) ≡ seen (step m a).machine
      by true e = seen_read (step m a).machine (step-good m t.good a b).lines eight-next (step-good m t.good a b).long
      by false e = t.card ∙ kept (eqb-false (step m a).outcome.code 0 e)

  size-next : length (words_of after ws) ≡ card_size
  unfolding words_of
  size-next = by (eqb after.outcome.code 0)
    where
      by : (x : Bool) → length (pick x (card_words after.card) ws) ≡ card_size
      by true = ap (λ (s : Shown). length (card_words s.card)) same ∙ seen-length (step m a).machine (step-good m t.good a b).lines eight-next (step-good m t.good a b).long
      by false = t.size

  pub every_call : CallLeaves ws a (outcome_of after.outcome) (words_of after ws) (out_of after a.out)
  every_call = record { outcome-is = refl; card-is = card-next; words_are = refl; out-is = refl }

  pub stored_next : Stored (step m a).machine (words_of after ws)
  stored_next = record { good = step-good m t.good a b; eight = eight-next; card = card-next ∙ ap (λ (s : Shown). s.card) same; size = size-next }

-- ---- every list of calls

-- a list of calls from a card's words on, as it is made
abbrev pub run_of : List ℕ → List Call → List Made
run_of ws [] = []
run_of ws (a ∷ more) = let s = card_step (card_in ws) a in made_of a s ∷ run_of (words_of s ws) more

pub calls-of : (ws : List ℕ) (calls : List Call) → calls_of (run_of ws calls) ≡ calls
calls-of ws [] = refl
calls-of ws (a ∷ more) = ap (◌∷◌ a) (calls-of (words_of (card_step (card_in ws) a) ws) more)

pub fresh-stored : Stored fresh_machine (replicate card_size 0)
fresh-stored = record { good = fresh-good; eight = refl; card = fresh-words ∙ sym fresh-seen; size = refl }
