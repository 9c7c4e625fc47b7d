-- `decim_register::splice` meets its contract: the top bits of y lie below the bits of x that are moved up.
-- Assumes nothing.
use Prim.Native.Nat.{◌^◌, ◌<◌}
use native.Mathlib.Omega.{arith}
use Rattle.decim_register.proofs.Feeding.{spliced-fits}
use Rattle.decim_register.proofs.splice.Goals as goal

pub overflow_add-result : goal.overflow_add-result
overflow_add-result c =
    let h : c.args.y < 2 ^ 32 = omega arith in
    record { fits = spliced-fits c.args.x c.args.y c.args.m c.requires.1 h }
