-- `traffic::total` meets its contract: where the next would pass 2^64, so does the total.
-- Assumes nothing.
use Rattle.std.proofs.Common.{◌≡◌, ◌≤◌, ◌<◌, ◌+◌, ◌^◌, ◌∙◌, ap, arith, rules}
use Rattle.traffic.specs.Traffic.{sum_of, every, total_of}
use Rattle.traffic.proofs.Sums.{summing-all, summing_on, summing-most, summing-none, total-over, total-below}
use Rattle.traffic.proofs.total.Goals as goal

pub loop-record-init : goal.loop-record-init
loop-record-init c = (summing-all every c.all-record-items.result.now, search rules)

pub loop-record-preserved : goal.loop-record-preserved
loop-record-preserved c =
    let e = c.in_ok-sum.ensures in
    (rw e.1 (summing_on c.loop-record.invariant.0 c.loop-record-test.true c.bytes_of.ensures), rw e.1 e.0)

pub returns-in_err-sum : goal.returns-in_err-sum
returns-in_err-sum c =
    let h = summing-most c.loop-record.invariant.0 c.loop-record-test.true c.bytes_of.ensures in
    let k : (c.loop-record.sum + c.bytes_of.result < 2 ^ 64) → ⊥ = c.in_err-sum.ensures in
    c.from_residual.ensures ∙ total-over (omega arith) ∙ ap (λ us. total_of (sum_of every us)) c.all-record-items.ensures

pub returns : goal.returns
returns c = total-below (summing-none c.loop-record.invariant.0 c.loop-record-test.false) c.loop-record.invariant.1 ∙ ap (λ us. total_of (sum_of every us)) c.all-record-items.ensures
