-- `multi_s01::chain` meets its contract. The loop's invariant: i blocks are chained, and prev is the W before the next.
-- Assumes nothing.
use Rattle.multi_s01.proofs.Chains.{Chaining}
use Rattle.multi_s01.proofs.chain.Given as goal

abbrev pub invariant-loop-i : goal.invariant-loop-i
invariant-loop-i l = Chaining l.a l.initial.out l.out l.count l.prev l.i
