-- `decim_buffer::Buffer::refill` meets its contract. The loop's invariant: m bits are fed.
-- Assumes nothing.
use Rattle.std.proofs.Common.{◌≡◌, true, ◌+◌, ◌*◌}
use Rattle.decim_register.specs.Register.{bit_in}
use Rattle.decim_buffer.specs.Buffers.{fed_by}
use Rattle.decim_buffer.proofs.Buffer.refill.Given as goal

abbrev pub invariant-loop-m : goal.invariant-loop-m
invariant-loop-m l = l.held ≡ fed_by true (λ j. bit_in l.f (4 * l.k + j)) l.initial.held l.m
