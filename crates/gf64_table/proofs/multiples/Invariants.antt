-- `gf64_table::multiples` meets its contract. The loop's invariant: the entries below at are filled, and x is a times x^(at / 2).
-- Assumes nothing.
use Prim.Native.Nat.{◌-◌}
use Rattle.gf64_table.proofs.Tables.{Filled}
use Rattle.gf64_table.proofs.multiples.Given as goal

abbrev pub invariant-loop-at : goal.invariant-loop-at
invariant-loop-at l = Filled l.a l.initial.t l.t l.x l.at

abbrev pub decreases-loop-at : goal.decreases-loop-at
decreases-loop-at l = 128 - l.at
