-- `decim::eight` meets its contract. The loop's invariant: the buffer is that after n bits.
-- Assumes nothing.
use mathlib.Core.Path.{refl}
use Rattle.decim_buffer.specs.Buffers.{refills}
use Rattle.decim.proofs.Turns.{refills_more}
use Rattle.decim.proofs.eight.Goals as goal

pub loop-n-init : goal.loop-n-init
unfolding refills
loop-n-init c = refl

pub loop-n-preserved : goal.loop-n-preserved
loop-n-preserved c = rw (c.next-held.ensures, c.loop-n.invariant, refills_more)
