-- `mugi::start::turns` meets its contract. The loop's invariant: x is a after so many turns.
-- Assumes nothing.
use Rattle.std.proofs.Common.{◌≡◌}
use Rattle.words.specs.Lists.{iter}
use Rattle.mugi.specs.Cipher.{turned}
use Rattle.mugi.proofs.start.turns.Given as goal

abbrev pub invariant-loop : goal.invariant-loop
invariant-loop l = l.x ≡ iter l.counter turned l.initial.x
