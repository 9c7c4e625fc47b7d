-- Demand 3 of the program: every run from a fresh card is the machine's, and a line's stream is one stream. Each answer is that of the card's step.
-- Assumes nothing.
use Prim.Native.Nat.{ℕ}
use mathlib.Core.Path.{◌≡◌, sym, subst}
use mathlib.Core.List.{List, [], ◌∷◌, map}
use Rattle.machine.specs.Machine.{Machine, Call, Seen, step, card_step, fresh_machine, fresh_card}
use Rattle.machine.specs.Calls.{Made, made_of, calls_of, BytesIn, AllBytes}
use Rattle.lists.specs.OneStream.{OneStream}
use Rattle.lists.specs.Counted.{Counted}
use Rattle.lists.specs.Steps.{Steps, none as no_steps, step as one-step}
use Rattle.lists.specs.Parking.{ParkedCalls, SameImages}
use Rattle.lists.proofs.Steps.{steps-bytes, steps-one-stream, steps-counted, steps-parked-calls, steps-same-images}
use Rattle.trace.specs.Trace.{traced, AlikeLists, AllShare}
use Rattle.trace.proofs.Runs.{steps-same-trace, steps-tell-nothing}
use Rattle.uses.specs.Uses.{Unaltered, FreshKeys, KeystreamOnce}
use Rattle.uses.proofs.Once.{steps-keystream-once}
use Rattle.card_layout.proofs.Cards.{fresh-words}
use Rattle.card_outcome.specs.Outcomes.{outcome_of, Code}
use Rattle.card_outcome.specs.Leaves.{out_of, Untouched}
use Rattle.card_outcome.proofs.Refusals.{refused-whole as words-refused-whole, numbered as words-numbered}
use Rattle.card_outcome.proofs.Every.{Stored, every_call, stored_next, run_of, calls-of, fresh-stored}
use Rattle.card.specs.declared.Card.{Card}
use Rattle.card.specs.declared.Answer.{Answer}
use Rattle.card.specs.Ran.{seen_of, fresh, answer_of, recorded, CallPromise, Ran, none, call}
use Rattle.card.proofs.Calls.{promised, called}

-- what is recorded of a call is what the card's step shows
recorded-is : (c : Card) (a : Call) (r : Answer) (o : List ℕ) → CallPromise c a r o → recorded a r o ≡ made_of a (card_step (seen_of c) a)
unfolding outcome_of out_of
recorded-is c a r o h =
    let k = called c a r o h in
    λ j. record {
      call = a;
      code = (k.outcome-is j).code;
      used-command = (k.outcome-is j).used_command;
      used-data = (k.outcome-is j).used_data;
      written = (k.outcome-is j).written;
      out = k.out-is j;
      card = k.card-is j;
    }

ran-steps : {c : Card} {xs : List Made} → Ran c xs → Steps (seen_of c) xs
ran-steps none = no_steps
ran-steps (call {c = c} {a = a} {r = r} {o = o} {xs = xs} h t) =
    subst (λ (x : Made). Steps (seen_of c) (x ∷ xs)) (sym (recorded-is c a r o h))
    (one-step h.borrowed (subst (λ (s : Seen). Steps s xs) h.seen-is (ran-steps t)))

from-fresh : {xs : List Made} → Ran fresh xs → Steps fresh_card xs
from-fresh {xs} h = subst (λ (s : Seen). Steps s xs) fresh-words (ran-steps h)

-- Every list of calls, refused ones among them, that the program runs from a fresh card.
pub one-stream : (xs : List Made) → Ran fresh xs → OneStream xs
one-stream xs h = steps-one-stream xs (from-fresh h)

-- In such a list the crypts of a line take positions one after the other, none past 2^36, and 255 is never said.
pub counted : (xs : List Made) → Ran fresh xs → Counted xs
counted xs h = steps-counted xs (from-fresh h)

-- In such a list an image that a park wrote is taken up until its line parks again.
pub parked-calls : (xs : List Made) → Ran fresh xs → ParkedCalls xs
parked-calls xs h = steps-parked-calls xs (from-fresh h)

-- In any two such lists parks from a line write the same bytes where the line's cipher, position, state and accepted parks before them are the same, whatever else the lists hold.
pub same-images : (xs ys : List Made) → Ran fresh xs → Ran fresh ys → SameImages xs ys
same-images xs ys h k = steps-same-images xs ys (from-fresh h) (from-fresh k)

-- In such a list no keystream byte is used twice, where every accepted resume brings an image that a park before it wrote and no two accepted opens, starts and changes were given the same cipher, key
-- and IV.
pub keystream-once : (xs : List Made) → Ran fresh xs → Unaltered xs → FreshKeys xs → KeystreamOnce xs
keystream-once xs h = steps-keystream-once xs (from-fresh h)

-- Two such lists that are alike but for data and for the key and IV bytes that are used leave the same trace: codes, counts, and what is public of the card after each call.
pub trace-tells-nothing : (xs ys : List Made) → Ran fresh xs → Ran fresh ys → AlikeLists (calls_of xs) (calls_of ys) → map traced xs ≡ map traced ys
trace-tells-nothing xs ys h k = steps-tell-nothing xs ys (from-fresh h) (from-fresh k)

-- So do two whose calls share no more than what decisions read.
pub same-trace : (xs ys : List Made) → Ran fresh xs → Ran fresh ys → AllShare fresh_machine (calls_of xs) (calls_of ys) → map traced xs ≡ map traced ys
same-trace xs ys h k = steps-same-trace xs ys (from-fresh h) (from-fresh k)

-- What the theorems on the two ends of a trunk ask of such a list beside it.
pub run-bytes : (xs : List Made) → Ran fresh xs → AllBytes xs
run-bytes xs h = steps-bytes (from-fresh h)

module _ (c : Card) (a : Call) (r : Answer) (o : List ℕ) (h : CallPromise c a r o) where
  -- A refusal returns the card and out unchanged and three zeros, whatever card was handed in.
  pub refused-whole : (r.outcome.code ≡ 0 → ⊥) → Untouched c.words a.out r.outcome r.card.words o
  refused-whole = words-refused-whole c.words a (called c a r o h)

  -- Every code is 0, one of document 01's numbers, or 255, whatever card was handed in.
  pub numbered : Code r.outcome.code
  numbered = words-numbered c.words a (called c a r o h)

-- ---- every list of calls is run

ran-of : (calls : List Call) → BytesIn calls → (c : Card) (m : Machine) → Stored m c.words → Ran c (run_of c.words calls)
unfolding answer_of
ran-of [] b c m t = none
ran-of (a ∷ more) b c m t =
    let r = answer_of c a in
    let o = out_of (card_step (seen_of c) a) a.out in
    let h : CallPromise c a r o = promised c a _ _ o (every_call t a b.0) b.0 in
    subst (λ (x : Made). Ran c (x ∷ run_of r.card.words more)) (recorded-is c a r o h) (call h (ran-of more b.1 r.card (step m a).machine (stored_next t a b.0)))

pub every-list : (calls : List Call) → BytesIn calls → (xs : List Made) × (Ran fresh xs × (calls_of xs ≡ calls))
every-list calls b = (run_of fresh.words calls, (ran-of calls b fresh fresh_machine fresh-stored, calls-of fresh.words calls))
