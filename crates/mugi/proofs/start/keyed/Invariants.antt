-- `mugi::start::keyed` meets its contract. The loop's invariant: a is that of i turns, and the last i blocks of b are a0 of each.
-- Assumes nothing.
use Rattle.mugi.proofs.Filling.{Turned}
use Rattle.mugi.proofs.start.keyed.Given as goal

abbrev pub invariant-loop-i : goal.invariant-loop-i
invariant-loop-i l = Turned l.initial.a l.i l.a l.b
