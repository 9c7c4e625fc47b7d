-- `decim_buffer::Buffer::next` meets its contract: each way through feeds four bits to the buffer after a bit is taken from it.
-- Assumes nothing.
use Rattle.decim_buffer.proofs.Quick.{refilled-empty, refilled-more}
use Rattle.decim_buffer.proofs.Buffer.next.Goals as goal

pub returns-then-d-eq0 : goal.returns-then-d-eq0
returns-then-d-eq0 c =
    refilled-empty _ c.args.self c.draw-d.ensures c.if-d-eq0.true c.refill.ensures

pub returns : goal.returns
returns c =
    refilled-more _ c.args.self c.draw-d.ensures c.if-d-eq0.false c.feed.ensures
