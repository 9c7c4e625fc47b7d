-- One call of a run of the program: what it is lent, what it does, what is recorded of it, and how far the run has come after it.
-- Assumes nothing.
use Rattle.std.specs.Prelude.{◌≡◌, List, [], ◌∷◌, ℕ, ◌+◌, ◌≤◌, ◌<◌, length, take, drop}
use Rattle.machine.specs.Machine.{Call, Seen, card_step}
use Rattle.machine.specs.Calls.{Made, made_of, line_on}
use Rattle.lists.specs.Logs.{Did, did_nothing, did-open, did-crypt, did-park, did-resume, did-close, did-change, did-load, did-start, did}
use Rattle.card.specs.Ran.{seen_of}
use Rattle.text.specs.Text.{Behind}
use Rattle.records.specs.Records.{Use, records_of}
use Rattle.session_table.specs.Table.{call_row}
use Rattle.session_call.specs.declared.Progress.{Progress}

-- a call on a card that is seen so, with all that came of it
unfoldable pub made : Seen → Call → Made
made c a = made_of a (card_step c a)

-- what is recorded of what a call did, on the card that is seen so after it: of an accepted crypt its line, the line's cipher and how many bytes it enciphered; of anything else nothing
unfoldable pub used_by : Seen → Did → List Use
used_by c (did-crypt i input output) = record { line = i; cipher = (line_on c i).cipher; bytes = length input } ∷ []
used_by c did_nothing = []
used_by c (did-open i k key iv) = []
used_by c (did-park i image) = []
used_by c (did-resume i image) = []
used_by c (did-close i) = []
used_by c (did-change i p key iv) = []
used_by c (did-load i k key) = []
used_by c (did-start i iv) = []

-- ---- how far the run has come

-- what the next call is lent
unfoldable pub here : Progress → (commands tray text out : List ℕ) → Call
here p commands tray text out =
    record { command = drop p.command commands; tray = tray; text = drop p.«data» text; out = drop p.out out }

-- that call
unfoldable pub next : Progress → (commands tray text out : List ℕ) → Made
next p commands tray text out = made (seen_of p.card) (here p commands tray text out)

-- the buffers hold what was used and written, and a line of the table and a record have room
pub record Ready (p : Progress) (commands text out table records : List ℕ) : Type 0 where
  pub command-in : p.command ≤ length commands
  pub text_in : p.«data» ≤ length text
  pub out-in : p.out ≤ length out
  pub row_fits : p.table + 105 ≤ length table
  pub record-fits : p.records + 10 ≤ length records
  pub calls-few : p.calls < 16384

-- one call more
pub record Turned (p : Progress) (commands tray text out table records : List ℕ) (q : Progress) (out' table' records' : List ℕ) : Type 0 where
  pub card-is : seen_of q.card ≡ (next p commands tray text out).card
  pub command-is : q.command ≡ p.command + (next p commands tray text out).used-command
  pub text-is : q.«data» ≡ p.«data» + (next p commands tray text out).used-data
  pub calls_is : q.calls ≡ p.calls + 1
  pub code_is : q.code ≡ (next p commands tray text out).code
  pub out-is : Behind (take (next p commands tray text out).written (next p commands tray text out).out) p.out out out' q.out
  pub table_is : Behind (call_row (p.calls + 1) q.code (next p commands tray text out).used-command (next p commands tray text out).used-data (next p commands tray text out).written) p.table table table' q.table
  pub records_is : Behind (records_of (used_by (next p commands tray text out).card (did (next p commands tray text out)))) p.records records records' q.records
