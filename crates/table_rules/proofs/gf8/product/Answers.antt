-- `table_rules::gf8::product` meets its contract: what is summed and what the digits that are left give is the product.
-- Assumes nothing.
use Rattle.std.proofs.Common.{◌≡◌, ◌+◌, ◌-◌, refl, arith}
use Rattle.field.specs.Gf2.{times_x}
use Rattle.field.proofs.Turns.{digit-taken, digits-done}
use Rattle.table_rules.proofs.gf8.product.Goals as goal

pub loop-preserved : goal.loop-preserved
loop-preserved c =
    let e : 8 - (c.loop.counter + 1) ≡ 8 - c.loop.counter - 1 = omega arith in
    rw (e, c.times_x-x.ensures, c.if_one-sum.ensures)
    (digit-taken (times_x 8 c.args.p) c.loop.sum c.loop.x c.loop.y (8 - c.loop.counter) (omega arith) c.loop.invariant)

pub returns : goal.returns
returns c =
    digits-done (times_x 8 c.args.p) c.loop.sum c.loop.x c.loop.y (8 - c.loop.counter) (omega arith) c.loop.invariant

pub loop-init : goal.loop-init
loop-init c = refl
