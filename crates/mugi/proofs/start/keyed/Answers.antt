-- `mugi::start::keyed` meets its contract. The loop's invariant: a is that of i turns, and the last i blocks of b are a0 of each.
-- Assumes nothing.
use mathlib.Core.Path.{◌≡◌}
use native.Mathlib.Omega.{arith}
use Rattle.mugi.proofs.Filling.{none, more, done}
use Rattle.mugi.proofs.start.keyed.Goals as goal

pub loop-i-init : goal.loop-i-init
loop-i-init c = none c.spread-a.result

pub loop-i-preserved : goal.loop-i-preserved
loop-i-preserved c =
    more c.loop-i.i (omega arith) c.loop-i.invariant c.turn-a.ensures

pub returns : goal.returns
returns c =
    let e : c.loop-i.i ≡ 16 = omega arith in
    done c.loop-i.i c.args.key.now e c.loop-i.invariant c.spread-a.ensures
