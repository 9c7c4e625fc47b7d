-- `gf64::inverse` meets its contract: what is multiplied and the squares that are left give the inverse.
-- Assumes nothing.
use Rattle.std.proofs.Common.{◌≡◌, ◌+◌, ◌-◌, refl, arith}
use Rattle.gf64.specs.Gf64.{mul}
use Rattle.field.proofs.Turns.{square-taken, squares-done}
use Rattle.gf64.proofs.inverse.Goals as goal

pub loop-preserved : goal.loop-preserved
loop-preserved c =
    let e : 63 - (c.loop.counter + 1) ≡ 63 - c.loop.counter - 1 = omega arith in
    rw e
    (square-taken mul (63 - c.loop.counter) c.loop.r c.loop.s (omega arith) c.mul-s.ensures c.mul-r.ensures c.loop.invariant)

pub returns : goal.returns
returns c =
    squares-done mul (63 - c.loop.counter) c.loop.r c.loop.s (omega arith) c.loop.invariant

pub loop-init : goal.loop-init
loop-init c = refl
