-- A run of the program from its start to its end: what bounds it, and what it leaves.
-- Assumes nothing.
use Rattle.std.specs.Prelude.{◌≡◌, List, ◌++◌, ℕ, ◌+◌, ◌≤◌, length, drop}
use Rattle.words.specs.Lists.{All, Byte}
use Rattle.machine.specs.Machine.{fresh_card}
use Rattle.machine.specs.Calls.{Made}
use Rattle.card_outcome.specs.Leaves.{call_of}
use Rattle.card.specs.Ran.{fresh}
use Rattle.text.specs.Text.{Behind}
use Rattle.session_table.specs.Table.{accepted_of}
use Rattle.session_call.specs.declared.Progress.{Progress}
use Rattle.session.specs.declared.Ended.{Ended}
use Rattle.session.specs.Session.{calls, read_length, written_by, records_by, accepted_count, last_code_of, rows_from, table_of, session}

-- a run at its start, whose table has so many bytes
abbrev pub start_of : ℕ → Progress
start_of table = record { card = fresh; command = 0; «data» = 0; out = 0; table = table; records = 0; calls = 0; code = 0 }

-- what bounds a run: the parts of the files that are read, out, and room for the longest table and for the most records
pub record Sizes (commands text out table records : List ℕ) : Type 0 where
  pub commands-few : length commands ≤ 16384
  pub text-few : length text ≤ 16384
  pub out-few : length out ≤ 65536
  pub table-room : 262400 ≤ length table
  pub records-room : 81920 ≤ length records

-- a run at its end: the bytes, the lines, behind the column names, and the records of all its calls
pub record Finished (commands tray text out table records : List ℕ) (p : Progress) (out' table' records' : List ℕ) : Type 0 where
  pub bytes : Behind (written_by (calls read_length fresh_card (call_of commands tray text out))) 0 out out' p.out
  pub rows : Behind (rows_from 1 (calls read_length fresh_card (call_of commands tray text out))) 23 table table' p.table
  pub table-in : p.table + 46 ≤ length table'
  pub noted : Behind (records_by (calls read_length fresh_card (call_of commands tray text out))) 0 records records' p.records
  pub count : accepted_of p.calls p.code ≡ accepted_count (calls read_length fresh_card (call_of commands tray text out))
  pub last_code : p.code ≡ last_code_of 0 (calls read_length fresh_card (call_of commands tray text out))

-- what a run leaves in out, in the table and in the records, each whole: what is behind the written bytes, behind the printed text and behind the records stays
pub record RunLeaves (xs : List Made) (out table records out' table' records' : List ℕ) (r : Ended) : Type 0 where
  pub written : r.written ≡ length (written_by xs)
  pub out-is : out' ≡ written_by xs ++ drop r.written out
  pub printed : r.printed ≡ length (table_of xs)
  pub table_is : table' ≡ table_of xs ++ drop r.printed table
  pub recorded : r.recorded ≡ length (records_by xs)
  pub records_is : records' ≡ records_by xs ++ drop r.recorded records

-- the promise of a run: what it leaves, and that the files' contents that it was lent are bytes
pub record RunPromise (commands tray text out table records out' table' records' : List ℕ) (r : Ended) : Type 0 where
  pub left : RunLeaves (session commands tray text out) out table records out' table' records' r
  pub command-bytes : All Byte commands
  pub tray-bytes : All Byte tray
