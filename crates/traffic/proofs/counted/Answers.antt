-- `traffic::counted` meets its contract: the record is counted where its column has the value.
-- Assumes nothing.
use Rattle.records.specs.Records.{said}
use Rattle.traffic.proofs.Sums.{is-counted, not-counted}
use Rattle.traffic.proofs.counted.Goals as goal

pub returns-then-of-v : goal.returns-then-of-v
returns-then-of-v c = is-counted c.args.column (said c.args.record.now) c.of.ensures c.if-of-v.true c.bytes_of.ensures

pub returns-else-of-v : goal.returns-else-of-v
returns-else-of-v c = not-counted c.args.column (said c.args.record.now) c.of.ensures c.if-of-v.false
