-- What is promised of an effect, of a command and of a call on a card's words, each in the same four parts: the outcome, the card that is seen in the words, the words, and out, all whole.
-- Assumes nothing.
use Rattle.std.specs.Prelude.{◌≡◌, List, ◌++◌, ℕ, eqb, length, drop, Ok}
use Rattle.words.specs.Tests.{pick}
use Rattle.command.specs.declared.Command.{Command}
use Rattle.command.specs.declared.Command.TheVariants.{Crypt}
use Rattle.command.specs.Decode.{decode_of}
use Rattle.machine.specs.Machine.{Call, Effect, Public, Shown, public, back, decided, perform, shows, card_step}
use Rattle.card_layout.specs.Words.{card_in, card_words}
use Rattle.card_outcome.specs.declared.Outcome.{Outcome}
use Rattle.card_outcome.specs.Outcomes.{refusal, outcome_of}

-- a call that is lent these bytes
abbrev pub call_of : List ℕ → List ℕ → List ℕ → List ℕ → Call
call_of c t d o = record { command = c; tray = t; text = d; out = o }

-- out after what is shown: the written bytes, and the rest as it was
unfoldable pub out_of : Shown → List ℕ → List ℕ
out_of s out = s.outcome.output ++ drop (length s.outcome.output) out

-- the card's words after it: those of the card that is shown where it is accepted, else as they were
unfoldable pub words_of : Shown → List ℕ → List ℕ
words_of s ws = pick (eqb s.outcome.code 0) (card_words s.card) ws

-- what is left of a card's words and of out where this is shown
pub record Leaves (s : Shown) (ws out : List ℕ) (r : Outcome) (ws' out' : List ℕ) : Type 0 where
  pub outcome-is : r ≡ outcome_of s.outcome
  pub card-is : card_in ws' ≡ s.card
  pub words_are : ws' ≡ words_of s ws
  pub out-is : out' ≡ out_of s out

-- what an effect gives
abbrev pub EffectLeaves : (ws text out : List ℕ) → Effect → Outcome → (ws' out' : List ℕ) → Type 0
EffectLeaves ws text out e = Leaves (shows (perform (back (card_in ws)) text e)) ws out

-- what a decision goes by
unfoldable pub public_of : List ℕ → Public
public_of ws = public (back (card_in ws))

-- what a command that is read gives
abbrev pub CommandLeaves : List ℕ → Command → Call → Outcome → (ws' out' : List ℕ) → Type 0
CommandLeaves ws k a = EffectLeaves ws a.text a.out (decided k (public_of ws) a)

-- what a call gives
abbrev pub CallLeaves : List ℕ → Call → Outcome → (ws' out' : List ℕ) → Type 0
CallLeaves ws a = Leaves (card_step (card_in ws) a) ws a.out

-- ---- what is said of calls

-- what a refusal leaves: three zeros, the words and out as they were
pub record Untouched (ws out : List ℕ) (r : Outcome) (ws' out' : List ℕ) : Type 0 where
  pub outcome-is : r ≡ refusal r.code
  pub words_are : ws' ≡ ws
  pub out-is : out' ≡ out

-- an accepted crypt of n bytes on line i
pub record Crypts (a : Call) (r : Outcome) (i n : ℕ) : Type 0 where
  pub read : decode_of a.command ≡ Ok (Crypt i n)
  pub accepted : r.code ≡ 0
