-- `decim::start::mixed_in` meets its contract. The loop's invariant: w is a after so many calls of InitNext.
-- Assumes nothing.
use mathlib.Core.Path.{refl}
use Rattle.words.specs.Lists.{iter}
use Rattle.words.proofs.Registers.{iter-more}
use Rattle.decim.proofs.start.mixed_in.Goals as goal

pub loop-init : goal.loop-init
unfolding iter
loop-init c = refl

pub loop-preserved : goal.loop-preserved
loop-preserved c = rw (c.init_lfsr-next.ensures, c.loop.invariant, iter-more)
