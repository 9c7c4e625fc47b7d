-- `rabbit::count` meets its contract. The loop's invariant: the first i counters are those after the step, and the carry is the one into counter i.
-- Assumes nothing.
use Rattle.std.proofs.Common.{◌≡◌, ◌++◌, drop}
use Rattle.words.specs.Lists.{tab}
use Rattle.rabbit.specs.Cipher.{counter_at, carry_at}
use Rattle.rabbit.proofs.count.Given as goal

abbrev pub invariant-loop-i : goal.invariant-loop-i
invariant-loop-i l = (l.next ≡ tab l.i (counter_at l.c l.b) ++ drop l.i l.c) × (l.carry ≡ carry_at l.c l.b l.i)
