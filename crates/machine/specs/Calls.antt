-- A list of calls as it was made, by the program or by the machine.
-- Assumes nothing.
use Rattle.std.specs.Prelude.{ℕ, List, [], ◌∷◌, ◌++◌, length, get_or, drop}
use Rattle.words.specs.Lists.{All, Byte}
use Rattle.machine.specs.Machine.{Line, Call, Shown, Seen, Machine, idle_line, shows, step}

-- A call that was made: what it was lent, and all that came of it: code, counts, out as a whole and what is seen of the card.
pub record Made : Type 0 where
  pub call : Call
  pub code : ℕ
  pub used-command : ℕ
  pub used-data : ℕ
  pub written : ℕ
  pub out : List ℕ
  pub card : Seen

abbrev pub made_of : Call → Shown → Made
made_of a s =
    record {
      call = a;
      code = s.outcome.code;
      used-command = s.outcome.used-command;
      used-data = s.outcome.used-data;
      written = length s.outcome.output;
      out = s.outcome.output ++ drop (length s.outcome.output) a.out;
      card = s.card;
    }

-- The plain machine's list. It is fed the calls, and nothing of the program's card or answers.
abbrev pub machine_run : Machine → List Call → List Made
machine_run m [] = []
machine_run m (a ∷ more) = made_of a (shows (step m a)) ∷ machine_run (step m a).machine more

abbrev pub calls_of : List Made → List Call
calls_of [] = []
calls_of (x ∷ xs) = x.call ∷ calls_of xs

-- the card after a list that starts with the card c
abbrev pub card_after : Seen → List Made → Seen
card_after c [] = c
card_after c (x ∷ xs) = card_after x.card xs

abbrev pub line_on : Seen → ℕ → Line
line_on c i = get_or c.lines i idle_line

-- The buffers that a key, an IV or an image is read from hold bytes. The entries promise it of what they were lent.
pub record CallBytes (a : Call) : Type 0 where
  pub command : All Byte a.command
  pub tray : All Byte a.tray

abbrev pub BytesIn : List Call → Type 0
BytesIn [] = Unit {0}
BytesIn (a ∷ more) = CallBytes a × BytesIn more

abbrev pub AllBytes : List Made → Type 0
AllBytes xs = BytesIn (calls_of xs)
