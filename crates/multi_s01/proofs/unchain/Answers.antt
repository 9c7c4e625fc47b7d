-- `multi_s01::unchain` meets its contract. The loop's invariant: i blocks are taken apart, and prev is the W before the next.
-- Assumes nothing.
use mathlib.Core.Path.{refl}
use native.Mathlib.Omega.{arith}
use Rattle.multi_s01.proofs.Chains.{unchaining-none, unchaining-more, replaced-all}
use Rattle.multi_s01.proofs.unchain.Goals as goal

pub loop-i-init : goal.loop-i-init
loop-i-init c = unchaining-none _ _ _ _ c.requires.0 c.requires.1

pub loop-i-preserved : goal.loop-i-preserved
loop-i-preserved c =
    unchaining-more (omega arith) c.loop-i.invariant c.block_at-c.ensures (c.times-w.ensures _ c.multiples-t.ensures) c.block_at-h.ensures refl c.put_block.ensures

pub returns : goal.returns
returns c = replaced-all {n = c.args.count} (omega arith) c.loop-i.invariant.done
