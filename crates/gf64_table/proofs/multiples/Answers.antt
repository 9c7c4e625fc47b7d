-- `gf64_table::multiples` meets its contract. The loop's invariant: the entries below at are filled, and x is a times x^(at / 2).
-- Assumes nothing.
use mathlib.Core.Path.{refl}
use Rattle.gf64_table.proofs.Tables.{filled_none, filled_more, filled-all}
use Rattle.gf64_table.proofs.multiples.Goals as goal

pub loop-at-init : goal.loop-at-init
loop-at-init c = filled_none _ _ refl

pub loop-at-preserved : goal.loop-at-preserved
loop-at-preserved c =
    filled_more c.loop-at-test.true c.loop-at.invariant c.times_x-y.ensures c.times_x-x.ensures

pub returns : goal.returns
returns c = filled-all c.loop-at-test.false c.loop-at.invariant
