-- `sealing_stream::Walk::first` meets its contract. The loop's invariant: t blocks are read, and all are 0.
-- Assumes nothing.
use native.Mathlib.Omega.{arith}
use Rattle.sealing_stream.proofs.Walks.{passed_none, passed-more, passed-found, passed-all, passed_end}
use Rattle.sealing_stream.proofs.Walk.first.Goals as goal

pub loop-t-init : goal.loop-t-init
loop-t-init c = λ k s h. passed_none h

pub returns-then-a-ne0 : goal.returns-then-a-ne0
returns-then-a-ne0 c =
    record { found = λ k s h. let p = c.loop-t.invariant k s h in passed-found (omega arith) p (c.next_block-a.ensures.read k s _ p.stands) c.if-a-ne0.true }

pub loop-t-preserved : goal.loop-t-preserved
loop-t-preserved c = λ k s h. let p = c.loop-t.invariant k s h in passed-more p (c.next_block-a.ensures.read k s _ p.stands) c.if-a-ne0.false

pub returns : goal.returns
returns c = record { found = λ k s h. (passed-all (omega arith) (c.loop-t.invariant k s h), passed_end (omega arith) (omega arith) (c.loop-t.invariant k s h)) }
