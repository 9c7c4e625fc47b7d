-- `multi_s01::unchain` meets its contract. The loop's invariant: i blocks are taken apart, and prev is the W before the next.
-- Assumes nothing.
use Rattle.multi_s01.proofs.Chains.{Unchaining}
use Rattle.multi_s01.proofs.unchain.Given as goal

abbrev pub invariant-loop-i : goal.invariant-loop-i
invariant-loop-i l = Unchaining l.inverse l.sealed l.initial.held l.held l.count l.prev l.i
