-- `gf64::mul` meets its contract: what is summed and what the digits that are left give is the product.
-- Assumes nothing.
use Rattle.std.proofs.Common.{◌≡◌, ◌+◌, ◌-◌, refl, arith}
use Rattle.gf64.specs.Gf64.{by_x, mul}
use Rattle.field.proofs.Turns.{digit-taken, digits-done}
use Rattle.gf64.proofs.mul.Goals as goal

pub loop-preserved : goal.loop-preserved
loop-preserved c =
    let e : 64 - (c.loop.counter + 1) ≡ 64 - c.loop.counter - 1 = omega arith in
    rw (e, c.times_x-x.ensures, c.if_one-sum.ensures)
    (digit-taken by_x c.loop.sum c.loop.x c.loop.y (64 - c.loop.counter) (omega arith) c.loop.invariant)

pub returns : goal.returns
returns c =
    digits-done by_x c.loop.sum c.loop.x c.loop.y (64 - c.loop.counter) (omega arith) c.loop.invariant

pub loop-init : goal.loop-init
unfolding mul by_x
loop-init c = refl
