-- `mugi::Mugi::init` meets its contract.
-- Assumes nothing.
use Rattle.std.proofs.Common.{◌≡◌, refl, arith}
use Rattle.words.specs.Lists.{iter}
use Rattle.words.proofs.Registers.{iter-more}
use Rattle.mugi.specs.Cipher.{init}
use Rattle.mugi.proofs.Mugi.init.Goals as goal

pub loop-init : goal.loop-init
unfolding iter
loop-init c = refl

pub loop-preserved : goal.loop-preserved
loop-preserved c = rw (c.step-s.ensures, c.loop.invariant, iter-more)

pub returns : goal.returns
unfolding init
returns c = let e : c.loop.counter ≡ 16 = omega arith in rw (c.loop.invariant, e, c.with_iv-s.ensures, c.keyed.ensures)
