-- `traffic::sum` meets its contract: it is at most the total.
-- Assumes nothing.
use Rattle.std.proofs.Common.{◌∙◌, ap, arith}
use Rattle.records.specs.Records.{uses}
use Rattle.traffic.specs.Traffic.{sum_of, in_column, column_number}
use Rattle.traffic.proofs.Sums.{summing-all, summing_on, summing-most, summing-none, sum-most}
use Rattle.traffic.proofs.sum.Goals as goal

pub loop-record-init : goal.loop-record-init
loop-record-init c = summing-all _ c.all-record-items.result.now

pub loop-record-preserved : goal.loop-record-preserved
loop-record-preserved c = summing_on c.loop-record.invariant c.loop-record-test.true c.counted-sum.ensures

pub overflow_add-sum : goal.overflow_add-sum
overflow_add-sum c =
    let p = in_column (column_number c.args.column) c.args.v in
    let us = uses c.args.s.now in
    let h = summing-most c.loop-record.invariant c.loop-record-test.true c.counted-sum.ensures in
    let e = ap (sum_of p) c.all-record-items.ensures in
    let m = sum-most p us in
    record { fits = omega arith }

pub returns : goal.returns
returns c = summing-none c.loop-record.invariant c.loop-record-test.false ∙ ap (sum_of (in_column (column_number c.args.column) c.args.v)) c.all-record-items.ensures
