-- The program (document 01, `cardrun`): commands are run until the end or the first refusal, each call with what is left of the commands, the data and out, and the whole tray; the written
-- bytes joined, the records of its crypts, and the table that is printed.
-- Assumes nothing.
use Rattle.std.specs.Prelude.{List, [], ◌∷◌, ◌++◌, ℕ, zero, suc, ◌+◌, eqb, length, take, drop}
use Rattle.words.specs.Tests.{pick}
use Rattle.machine.specs.Machine.{Call, Seen, fresh_card}
use Rattle.machine.specs.Calls.{Made}
use Rattle.lists.specs.Logs.{did}
use Rattle.records.specs.Records.{Use, records_of}
use Rattle.session_table.specs.Table.{columns, call_row, end_of}
use Rattle.session_call.specs.Turn.{made, used_by}

-- ---- the calls

-- only so many bytes of each file are read
abbrev pub read_length : ℕ
read_length = 16384

-- what the next call is lent: what is left of the commands, of the data and of out, and the tray
unfoldable pub rest : Call → Made → Call
rest a x =
    record {
      command = drop x.used-command a.command;
      tray = a.tray;
      text = drop x.used-data a.text;
      out = drop x.written x.out;
    }

-- Calls until the commands are used up or one is refused, k at most. An accepted command uses two bytes or more, so that as many as there are bytes are never reached.
unfoldable pub calls : ℕ → Seen → Call → List Made
calls zero c a = []
calls (suc k) c a =
    pick (eqb (length a.command) 0) [] (made c a ∷ pick (eqb (made c a).code 0) (calls k (made c a).card (rest a (made c a))) [])

-- what the first call is lent
abbrev pub lent : (commands tray text out : List ℕ) → Call
lent commands tray text out =
    record { command = take read_length commands; tray = take read_length tray; text = take read_length text; out = out }

-- the calls of the program, from a fresh card
abbrev pub session : (commands tray text out : List ℕ) → List Made
session commands tray text out = calls read_length fresh_card (lent commands tray text out)

-- ---- what it leaves

-- all written bytes, joined
unfoldable pub written_by : List Made → List ℕ
written_by [] = []
written_by (x ∷ xs) = take x.written x.out ++ written_by xs

-- what is recorded of all calls, in order
unfoldable pub uses_by : List Made → List Use
uses_by [] = []
uses_by (x ∷ xs) = used_by x.card (did x) ++ uses_by xs

-- their records, joined
abbrev pub records_by : List Made → List ℕ
records_by xs = records_of (uses_by xs)

-- accepted calls
unfoldable pub accepted_count : List Made → ℕ
accepted_count [] = 0
accepted_count (x ∷ xs) = pick (eqb x.code 0) 1 0 + accepted_count xs

-- the last code after the code k
unfoldable pub last_code_of : ℕ → List Made → ℕ
last_code_of k [] = k
last_code_of k (x ∷ xs) = last_code_of x.code xs

-- ---- the table

-- a line for each call, the first numbered i
unfoldable pub rows_from : ℕ → List Made → List ℕ
rows_from i [] = []
rows_from i (x ∷ xs) = call_row i x.code x.used-command x.used-data x.written ++ rows_from (suc i) xs

-- the table: column names, a line for each call, the last line
unfoldable pub table_of : List Made → List ℕ
table_of xs = (columns ++ rows_from 1 xs) ++ end_of (accepted_count xs) (last_code_of 0 xs)
