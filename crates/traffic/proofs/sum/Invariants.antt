-- `traffic::sum` meets its contract: what is summed and what the records that are left add is the sum, which is at most the total.
-- Assumes nothing.
use Rattle.traffic.specs.Traffic.{in_column, column_number}
use Rattle.traffic.proofs.Sums.{Summing}
use Rattle.traffic.proofs.sum.Given as goal

abbrev pub invariant-loop-record : goal.invariant-loop-record
invariant-loop-record l = Summing (in_column (column_number l.column) l.v) l.sum l.record-items l.record-index
