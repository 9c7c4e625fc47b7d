-- `gf64_table::times` meets its contract. The loop's invariant: what is summed and what the digits that are left give is the product.
-- Assumes nothing.
use Rattle.gf64_table.proofs.Tables.{taken_none, taken_more, taken-all}
use Rattle.gf64_table.proofs.times.Goals as goal

pub loop-at-init : goal.loop-at-init
loop-at-init c = taken_none _ _

pub loop-at-preserved : goal.loop-at-preserved
loop-at-preserved c =
    taken_more c.loop-at-test.true c.loop-at.invariant

pub returns : goal.returns
returns c = taken-all c.loop-at-test.false c.loop-at.invariant
