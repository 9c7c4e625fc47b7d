-- `snow2::start::start` meets its contract: the loop makes the 32 steps in INIT mode.
-- Assumes nothing.
use Rattle.std.proofs.Common.{◌≡◌, arith, rules}
use Rattle.words.specs.Lists.{iter}
use Rattle.words.proofs.Registers.{iter-more}
use Rattle.snow2.specs.Cipher.{started}
use Rattle.snow2.proofs.start.start.Goals as goal

pub loop-init : goal.loop-init
unfolding iter
loop-init c = search rules

pub loop-preserved : goal.loop-preserved
loop-preserved c = rw (c.step_init-s.ensures, c.loop.invariant, iter-more)

pub returns : goal.returns
unfolding started
returns c = let e : c.loop.counter ≡ 32 = omega arith in rw (c.step.ensures, c.loop.invariant, e)
