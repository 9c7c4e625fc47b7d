-- `decim_buffer::Buffer::put_entry` meets its contract: what its two calls of B ensure, put together.
-- Assumes nothing.
use Rattle.std.proofs.Common.{◌≡◌, ◌%◌, ap, ◌∙◌}
use Rattle.decim_buffer.specs.declared.Buffer.{Buffer}
use Rattle.decim_buffer.specs.Entries.{puts, unpacked}
use Rattle.decim_buffer.proofs.Blocks.{buffered-t}
use Rattle.decim_buffer.proofs.Buffer.put_entry.Goals as goal

pub returns : goal.returns
unfolding unpacked puts
returns c =
    let t : c.put.result.t ≡ c.wide-x.result % 8 = ap (λ (h : Buffer). h.t) c.put.ensures ∙ buffered-t _ _ _ _ _ in
    rw (c.put-2.ensures, t, c.put.ensures, c.wide-x.ensures.0)
