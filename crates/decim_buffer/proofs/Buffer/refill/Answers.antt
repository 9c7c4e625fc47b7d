-- `decim_buffer::Buffer::refill` meets its contract. The loop's invariant: m bits are fed.
-- Assumes nothing.
use mathlib.Core.Path.{refl}
use Rattle.decim_buffer.specs.Buffers.{fed, fed_by}
use Rattle.decim_buffer.proofs.Blocks.{fed-more}
use Rattle.decim_buffer.proofs.Buffer.refill.Goals as goal

pub loop-m-init : goal.loop-m-init
unfolding fed_by
loop-m-init c = refl

pub loop-m-preserved : goal.loop-m-preserved
unfolding fed
loop-m-preserved c = rw (c.put-held.ensures, c.loop-m.invariant, fed-more)
