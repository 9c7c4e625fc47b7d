-- `decim_buffer::Buffer::feed` meets its contract: the entry has T after four bits and what comes out of them.
-- Assumes nothing.
use Rattle.decim_buffer.proofs.Quick.{quick-is}
use Rattle.decim_buffer.proofs.Buffer.feed.Goals as goal

pub returns : goal.returns
returns c =
    rw (c.put_entry.ensures, c.absg.ensures) (quick-is c.args.self c.args.f c.args.k c.requires)
