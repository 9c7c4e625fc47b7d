-- What a call of the C entry leaves: its code, the card's words, out and the counts, and what it answers to a card or counts of the wrong length.
-- Assumes nothing.
use Rattle.std.specs.Prelude.{◌≡◌, not, List, [], ◌∷◌, ℕ, eqb, length}
use Rattle.words.specs.Tests.{pick}
use Rattle.card_sizes.specs.Sizes.{card_size}
use Rattle.machine.specs.Machine.{Call, Shown, card_step}
use Rattle.machine.specs.Calls.{CallBytes}
use Rattle.card_layout.specs.Words.{card_in}
use Rattle.card_outcome.specs.Leaves.{out_of, words_of}

pub record Result : Type 0 where
  pub code : ℕ
  pub words : List ℕ
  pub out : List ℕ
  pub counts : List ℕ

-- of what the card's step shows
unfoldable pub shown_as : Shown → (ws out : List ℕ) → Result
shown_as s ws out =
    record {
      code = s.outcome.code;
      words = words_of s ws;
      out = out_of s out;
      counts = s.outcome.used-command ∷ s.outcome.used-data ∷ length s.outcome.output ∷ [];
    }

-- 255 for counts or a card of the wrong length; counts of the wrong length stay as they are
unfoldable pub result_of : List ℕ → Call → List ℕ → Result
result_of ws a counts =
    pick (not (eqb (length counts) 3)) (record { code = 255; words = ws; out = a.out; counts = counts })
    (pick (not (eqb (length ws) card_size)) (record { code = 255; words = ws; out = a.out; counts = 0 ∷ 0 ∷ 0 ∷ [] })
    (shown_as (card_step (card_in ws) a) ws a.out))

-- what a refusal leaves: the words and out as they were, and three zeros in counts that are three; others stay
pub record UntouchedOn (ws out counts ws' out' counts' : List ℕ) : Type 0 where
  pub words_are : ws' ≡ ws
  pub out-is : out' ≡ out
  pub counts-are : length counts ≡ 3 → counts' ≡ 0 ∷ 0 ∷ 0 ∷ []
  pub counts-stay : (length counts ≡ 3 → ⊥) → counts' ≡ counts

-- the promise of a call: all that it leaves, in one equation; that the words are as many as they were and hold the card that the step shows; and that it was lent bytes
pub record EntryPromise (ws : List ℕ) (a : Call) (counts : List ℕ) (code : ℕ) (ws' out' counts' : List ℕ) : Type 0 where
  pub result-is : record { code = code; words = ws'; out = out'; counts = counts' } ≡ result_of ws a counts
  pub seen-is : length counts ≡ 3 → length ws ≡ card_size → card_in ws' ≡ (card_step (card_in ws) a).card
  pub size_is : length ws' ≡ length ws
  pub borrowed : CallBytes a
