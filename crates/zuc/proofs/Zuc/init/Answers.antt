-- `zuc::Zuc::init` meets its contract: the loop makes the 32 steps in INIT mode.
-- Assumes nothing.
use Rattle.std.proofs.Common.{◌≡◌, arith, rules}
use Rattle.words.specs.Lists.{iter}
use Rattle.words.proofs.Registers.{iter-more}
use Rattle.zuc.specs.Cipher.{init}
use Rattle.zuc.proofs.Zuc.init.Goals as goal

pub loop-init : goal.loop-init
unfolding iter
loop-init c = search rules

pub loop-preserved : goal.loop-preserved
loop-preserved c = rw (c.step_init-s.ensures, c.loop.invariant, iter-more)

pub returns : goal.returns
unfolding init
returns c = let e : c.loop.counter ≡ 32 = omega arith in rw (c.step.ensures, c.loop.invariant, e, c.load-s.ensures)
