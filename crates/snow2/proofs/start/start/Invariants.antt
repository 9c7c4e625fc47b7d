-- `snow2::start::start` meets its contract. The loop's invariant: the state is that of as many steps in INIT mode as there were turns.
-- Assumes nothing.
use Rattle.std.proofs.Common.{◌≡◌}
use Rattle.words.specs.Lists.{iter}
use Rattle.snow2.specs.Cipher.{next_init}
use Rattle.snow2.proofs.start.start.Given as goal

abbrev pub invariant-loop : goal.invariant-loop
invariant-loop l = l.s ≡ iter l.counter next_init l.initial.s
