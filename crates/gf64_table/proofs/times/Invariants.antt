-- `gf64_table::times` meets its contract. The loop's invariant: what is summed and what the digits that are left give is the product.
-- Assumes nothing.
use Prim.Native.Nat.{◌-◌}
use Rattle.gf64_table.proofs.Tables.{Taken}
use Rattle.gf64_table.proofs.times.Given as goal

abbrev pub invariant-loop-at : goal.invariant-loop-at
invariant-loop-at l = Taken l.t l.b l.sum l.y l.at

abbrev pub decreases-loop-at : goal.decreases-loop-at
decreases-loop-at l = 128 - l.at
