-- `decim_buffer::set_bit` meets its contract: the bit that was there is taken away, and the new one is added at its place.
-- Assumes nothing.
use Prim.Native.Nat.{◌^◌, ◌<◌}
use native.Mathlib.Omega.{arith}
use Rattle.decim_buffer.proofs.Blocks.{set_is, set-fits}
use Rattle.decim_buffer.proofs.set_bit.Goals as goal

pub overflow_add-result : goal.overflow_add-result
overflow_add-result c = let h : c.args.b < 2 ^ 32 = omega arith in record { fits = set-fits c.args.b c.args.i c.args.c h c.requires.0 c.requires.1 }

pub returns : goal.returns
returns c = let h : c.args.b < 2 ^ 32 = omega arith in set_is c.args.b c.args.i c.args.c h c.requires.0 c.requires.1
