-- `decim_buffer::up_above` meets its contract: the shifts down and up again lose only the lowest p bits, which are added.
-- Assumes nothing.
use Prim.Native.Nat.{◌^◌, ◌<◌}
use native.Mathlib.Omega.{arith}
use Rattle.decim_buffer.proofs.Draws.{above-fits}
use Rattle.decim_buffer.proofs.up_above.Goals as goal

pub overflow_add-result : goal.overflow_add-result
overflow_add-result c = let h : c.args.b < 2 ^ 32 = omega arith in record { fits = above-fits c.args.b c.args.p h c.requires }
