-- `report::put_figures` meets its contract: each figure goes behind those before it.
-- Assumes nothing.
use mathlib.Core.Path.{◌≡◌}
use Prim.Native.Nat.{◌+◌, ◌-◌}
use Rattle.records.specs.Records.{uses}
use Rattle.traffic.specs.Traffic.{in_column, column_number}
use Rattle.report.proofs.Figures.{Putting, putting-none, putting-same, putting-room, putting-more, putting-all}
use borrow.Author.Rules.{rules}
use Rattle.report.proofs.put_figures.Given as goal

abbrev pub invariant-loop-v : goal.invariant-loop-v
invariant-loop-v l =
    Putting (in_column (column_number l.column)) l.fn.first l.fn.count (uses l.s) l.initial.text.len l.initial.text.out.now l.text.out.now l.text.len l.v (l.fn.first + l.fn.count - l.v)
    × (l.text.out.ghost_name ≡ l.initial.text.out.ghost_name)
