-- `mugi::Mugi::init` meets its contract. The loop's invariant: the state is that of so many steps.
-- Assumes nothing.
use Rattle.std.proofs.Common.{◌≡◌}
use Rattle.words.specs.Lists.{iter}
use Rattle.mugi.specs.Cipher.{next}
use Rattle.mugi.proofs.Mugi.init.Given as goal

abbrev pub invariant-loop : goal.invariant-loop
invariant-loop l = l.s ≡ iter l.counter next l.initial.s
