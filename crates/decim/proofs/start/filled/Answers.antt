-- `decim::start::filled` meets its contract.
-- Assumes nothing.
use Rattle.std.proofs.Common.{sym, ◌∙◌, ◌-◌, arith}
use Rattle.decim.proofs.Filling.{filled-turn, filled-full, filled-last}
use Rattle.decim.proofs.start.filled.Goals as goal

pub loop-preserved : goal.loop-preserved
loop-preserved c = filled-turn c.loop.counter c.args.st c.loop.s (omega arith) c.loop.invariant c.if-s-ge32.false c.init_buff-s.ensures

pub returns-then-s-ge32 : goal.returns-then-s-ge32
returns-then-s-ge32 c = sym (c.loop.invariant ∙ filled-full (1024 - c.loop.counter) c.loop.s c.if-s-ge32.true)

pub returns : goal.returns
returns c = sym (c.loop.invariant ∙ filled-last c.loop.counter c.loop.s (omega arith))
