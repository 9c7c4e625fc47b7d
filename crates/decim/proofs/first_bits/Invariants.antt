-- `decim::first_bits` meets its contract. The loop's invariant: z has the first j bits.
-- Assumes nothing.
use mathlib.Core.Path.{◌≡◌}
use Rattle.decim_register.specs.Register.{bit_in}
use Rattle.decim.specs.Cipher.{joined_up}
use Rattle.decim.proofs.first_bits.Given as goal

abbrev pub invariant-loop-j : goal.invariant-loop-j
invariant-loop-j l = l.z ≡ joined_up l.j (bit_in l.b)
