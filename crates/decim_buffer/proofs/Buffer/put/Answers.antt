-- `decim_buffer::Buffer::put` meets its contract: each way through is a case of B.
-- Assumes nothing.
use Rattle.decim_buffer.proofs.Blocks.{buffered-set, buffered-full, buffered-not}
use Rattle.decim_buffer.proofs.Buffer.put.Goals as goal
use Rattle.decim_buffer.proofs.Buffer.put.Goals.{else-output-via-then-output+else-self-lt32, else-output-via-else-output}

pub returns-then-self-lt32 : goal.returns-then-self-lt32
returns-then-self-lt32 c =
    buffered-set c.args.self.t c.args.self.b c.args.self.fill c.args.c c.args.output c.if-output.true c.if-self-lt32.true c.set_bit.ensures

pub returns : goal.returns
returns c = elim c.else-output.branch [
  | else-output-via-then-output+else-self-lt32 w ↦ buffered-full c.args.self.t c.args.self.b c.args.self.fill c.args.c c.args.output w.if-output.true w.if-self-lt32.false
  | else-output-via-else-output w ↦ buffered-not c.args.self.t c.args.self.b c.args.self.fill c.args.c c.args.output w.if-output.false
]
