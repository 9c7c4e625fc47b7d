-- `tables_text::put_table` meets its contract: each entry goes behind those before it.
-- Assumes nothing.
use Rattle.tables_text.proofs.Entries.{Putting}
use Rattle.tables_text.proofs.put_table.Given as goal

abbrev pub invariant-loop-i : goal.invariant-loop-i
invariant-loop-i g l = Putting g.row.W l.t l.initial.text l.i l.text
