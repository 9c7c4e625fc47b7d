-- `decim::start::filled` meets its contract. The loop's invariant: what the rounds have left to fill is the filling of the state so far.
-- Assumes nothing.
use mathlib.Core.Path.{◌≡◌}
use Prim.Native.Nat.{◌-◌}
use Rattle.decim.specs.Cipher.{buffer_filled}
use Rattle.decim.proofs.start.filled.Given as goal

abbrev pub invariant-loop : goal.invariant-loop
invariant-loop l = buffer_filled 1024 l.initial.s ≡ buffer_filled (1024 - l.counter) l.s
