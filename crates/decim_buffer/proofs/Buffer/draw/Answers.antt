-- `decim_buffer::Buffer::draw` meets its contract: an empty buffer stays as it is.
-- Assumes nothing.
use Rattle.decim_buffer.specs.Buffers.{drawn}
use Rattle.decim_buffer.proofs.Buffer.draw.Goals as goal

pub returns : goal.returns
unfolding drawn
returns c = cc
