-- `mugi::start::turns` meets its contract.
-- Assumes nothing.
use Rattle.std.proofs.Common.{refl}
use Rattle.words.specs.Lists.{iter}
use Rattle.words.proofs.Registers.{iter-more}
use Rattle.mugi.proofs.start.turns.Goals as goal

pub loop-init : goal.loop-init
unfolding iter
loop-init c = refl

pub loop-preserved : goal.loop-preserved
loop-preserved c = rw (c.turn-y.ensures, c.loop.invariant, iter-more)
