-- `decim::eight` meets its contract. The loop's invariant: the buffer is that after n bits.
-- Assumes nothing.
use mathlib.Core.Path.{◌≡◌}
use Rattle.decim_buffer.specs.Buffers.{refills}
use Rattle.decim.proofs.eight.Given as goal

abbrev pub invariant-loop-n : goal.invariant-loop-n
invariant-loop-n l = l.held ≡ refills l.f l.initial.held l.n
