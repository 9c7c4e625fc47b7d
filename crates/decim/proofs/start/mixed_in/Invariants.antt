-- `decim::start::mixed_in` meets its contract. The loop's invariant: w is a after so many calls of InitNext.
-- Assumes nothing.
use mathlib.Core.Path.{◌≡◌}
use Rattle.words.specs.Lists.{iter}
use Rattle.decim_register.specs.Register.{init_next_lfsr}
use Rattle.decim.proofs.start.mixed_in.Given as goal

abbrev pub invariant-loop : goal.invariant-loop
invariant-loop l = l.w ≡ iter l.counter init_next_lfsr l.initial.w
