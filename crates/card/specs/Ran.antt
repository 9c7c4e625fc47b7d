-- What `call` promises, and a run of it: a list of calls, each on the card that the call before it returned.
-- Assumes nothing.
use Rattle.std.specs.Prelude.{◌≡◌, ℕ, List, [], ◌∷◌, replicate}
use Rattle.card_sizes.specs.Sizes.{card_size}
use Rattle.machine.specs.Machine.{Call, Seen, card_step}
use Rattle.machine.specs.Calls.{Made, CallBytes}
use Rattle.card_layout.specs.Words.{card_in}
use Rattle.card_outcome.specs.Outcomes.{outcome_of}
use Rattle.card_outcome.specs.Leaves.{out_of, words_of}
use Rattle.card.specs.declared.Card.{Card}
use Rattle.card.specs.declared.Answer.{Answer}

-- what is seen of a card
abbrev pub seen_of : Card → Seen
seen_of c = card_in c.words

-- a fresh card: all zeros
abbrev pub fresh : Card
fresh = record { words = replicate card_size 0 }

-- the answer of the card's step: the card after it, its code and its three counts
unfoldable pub answer_of : Card → Call → Answer
answer_of c a = let s = card_step (seen_of c) a in record { card = record { words = words_of s c.words }; outcome = outcome_of s.outcome }

-- the promise of `call`: the answer and out, each in one equation; that the card holds the lines and the parks that the step shows; and that it was lent bytes
pub record CallPromise (c : Card) (a : Call) (r : Answer) (o : List ℕ) : Type 0 where
  pub answer-is : r ≡ answer_of c a
  pub out-is : o ≡ out_of (card_step (seen_of c) a) a.out
  pub seen-is : seen_of r.card ≡ (card_step (seen_of c) a).card
  pub borrowed : CallBytes a

-- a call, its answer and out after it
abbrev pub recorded : Call → Answer → List ℕ → Made
recorded a r o =
    record {
      call = a;
      code = r.outcome.code;
      used-command = r.outcome.used_command;
      used-data = r.outcome.used_data;
      written = r.outcome.written;
      out = o;
      card = seen_of r.card;
    }

-- Each call keeps the promise of `call`, whatever it is lent, and nobody else writes the card.
pub data Ran : Card → List Made → Type 0 where
  none : {c : Card} → Ran c []
  call : {c : Card} {a : Call} {r : Answer} {o : List ℕ} {xs : List Made} → CallPromise c a r o → Ran r.card xs → Ran c (recorded a r o ∷ xs)
