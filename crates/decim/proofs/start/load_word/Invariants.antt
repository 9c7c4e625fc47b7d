-- `decim::start::load_word` meets its contract. The loop's invariant: w is joined of the first j bits.
-- Assumes nothing.
use mathlib.Core.Path.{◌≡◌}
use Prim.Native.Nat.{◌+◌, ◌*◌}
use Rattle.decim_register.specs.Register.{joined_down}
use Rattle.decim.specs.Cipher.{loaded_bit}
use Rattle.decim.proofs.start.load_word.Given as goal

abbrev pub invariant-loop-j : goal.invariant-loop-j
invariant-loop-j l = l.w ≡ joined_down l.j (λ n. loaded_bit l.key l.iv (32 * l.i + n))
