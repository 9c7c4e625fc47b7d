-- `traffic::total` meets its contract: what is summed and what the records that are left add is the total.
-- Assumes nothing.
use Rattle.std.proofs.Common.{◌<◌, ◌^◌}
use Rattle.traffic.specs.Traffic.{every}
use Rattle.traffic.proofs.Sums.{Summing}
use Rattle.traffic.proofs.total.Given as goal

abbrev pub invariant-loop-record : goal.invariant-loop-record
invariant-loop-record l = Summing every l.sum l.record-items l.record-index × (l.sum < 2 ^ 64)
