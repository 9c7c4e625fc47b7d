-- `table_rules::gf8::inverse` meets its contract: what is multiplied and the squares that are left give the inverse.
-- Assumes nothing.
use Rattle.std.proofs.Common.{◌≡◌, ◌+◌, ◌-◌, refl, arith}
use Rattle.field.specs.Gf8.{mul8}
use Rattle.field.proofs.Turns.{square-taken, squares-done}
use Rattle.table_rules.proofs.gf8.inverse.Goals as goal

pub loop-preserved : goal.loop-preserved
loop-preserved c =
    let e : 7 - (c.loop.counter + 1) ≡ 7 - c.loop.counter - 1 = omega arith in
    rw e
    (square-taken (mul8 c.args.p) (7 - c.loop.counter) c.loop.r c.loop.s (omega arith) c.product-s.ensures c.product-r.ensures c.loop.invariant)

pub returns : goal.returns
returns c =
    squares-done (mul8 c.args.p) (7 - c.loop.counter) c.loop.r c.loop.s (omega arith) c.loop.invariant

pub loop-init : goal.loop-init
loop-init c = refl
