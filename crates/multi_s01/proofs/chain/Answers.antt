-- `multi_s01::chain` meets its contract. The loop's invariant: i blocks are chained, and prev is the W before the next.
-- Assumes nothing.
use mathlib.Core.Path.{ap}
use Prim.Native.Nat.{ℕ}
use native.Mathlib.Omega.{arith}
use Rattle.words.specs.Word.{◌⊕◌}
use Rattle.multi_s01.proofs.Chains.{chaining-none, chaining-more, replaced-length, replaced-all}
use Rattle.multi_s01.proofs.chain.Goals as goal

pub loop-i-init : goal.loop-i-init
loop-i-init c = chaining-none _ _ _ c.requires

pub loop-i-preserved : goal.loop-i-preserved
loop-i-preserved c =
    chaining-more (omega arith) c.loop-i.invariant c.block_at-w.ensures (ap (λ (x : ℕ). x ⊕ c.loop-i.prev) (c.times.ensures _ c.multiples-t.ensures)) c.put_block.ensures

pub shape_of-out : goal.shape_of-out
shape_of-out c = replaced-length c.loop-i.invariant.done

pub returns : goal.returns
returns c = replaced-all {n = c.args.count} (omega arith) c.loop-i.invariant.done
