-- `session::run_calls` meets its contract: each turn takes the first of the calls that are left.
-- Assumes nothing.
use Prim.Native.Nat.{◌+◌, ◌-◌}
use lib.Dec.{eqb}
use lib.ListN.{length}
use borrow.Author.Tests.{ltb-true, ltb-false}
use Rattle.words.specs.Tests.{pick}
use Rattle.session.proofs.Sofar.{Sofar, out-length, table-length, records-length, sofar-start, ready, sofar-next, falls, sofar-end}
use borrow.Author.Rules.{rules}
use Rattle.session.proofs.run_calls.Goals as goal

pub loop-p-init : goal.loop-p-init
loop-p-init c =
    rw c.start-p.ensures (sofar-start c.args.commands.now c.args.tray.now c.args.text.now c.args.out.now c.args.table.now c.args.records.now c.requires)

pub turn-p-requires : goal.turn-p-requires
turn-p-requires c =
    ready c.args.commands.now c.args.tray.now c.args.text.now c.args.out.now c.args.table.now c.args.records.now c.requires c.loop-p.p c.loop-p.out c.loop-p.table c.loop-p.records c.loop-p.invariant
    c.loop-p-test.true (ltb-true _ _ c.if-p-n.true-raw)

pub loop-p-smaller : goal.loop-p-smaller
loop-p-smaller c =
    falls c.args.commands.now c.args.tray.now c.args.text.now c.args.out.now c.args.table.now c.args.records.now c.requires c.loop-p.p c.loop-p.out c.loop-p.table c.loop-p.records c.loop-p.invariant
    c.loop-p-test.true (ltb-true _ _ c.if-p-n.true-raw) c.turn-p.result _ _ _ c.turn-p.ensures

pub loop-p-preserved : goal.loop-p-preserved
loop-p-preserved c =
    sofar-next c.args.commands.now c.args.tray.now c.args.text.now c.args.out.now c.args.table.now c.args.records.now c.requires c.loop-p.p c.loop-p.out c.loop-p.table c.loop-p.records c.loop-p.invariant
    c.loop-p-test.true (ltb-true _ _ c.if-p-n.true-raw) c.turn-p.result _ _ _ c.turn-p.ensures

pub returns-else-p-n : goal.returns-else-p-n
returns-else-p-n c =
    sofar-end c.args.commands.now c.args.tray.now c.args.text.now c.args.out.now c.args.table.now c.args.records.now c.requires c.loop-p.p c.loop-p.out c.loop-p.table c.loop-p.records c.loop-p.invariant
    (λ _. ltb-false _ _ c.if-p-n.false-raw)

pub returns-after-loop-p : goal.returns-after-loop-p
returns-after-loop-p c =
    sofar-end c.args.commands.now c.args.tray.now c.args.text.now c.args.out.now c.args.table.now c.args.records.now c.requires c.loop-p.p c.loop-p.out c.loop-p.table c.loop-p.records c.loop-p.invariant
    (λ e. absurd (c.loop-p-test.false e))

pub shape_of-out-else-p-n : goal.shape_of-out-else-p-n
shape_of-out-else-p-n c = out-length _ _ _ _ _ _ _ _ _ _ c.loop-p.invariant

pub shape_of-table-else-p-n : goal.shape_of-table-else-p-n
shape_of-table-else-p-n c = table-length _ _ _ _ _ _ _ _ _ _ c.loop-p.invariant

pub shape_of-records-else-p-n : goal.shape_of-records-else-p-n
shape_of-records-else-p-n c = records-length _ _ _ _ _ _ _ _ _ _ c.loop-p.invariant

pub shape_of-out-after-loop-p : goal.shape_of-out-after-loop-p
shape_of-out-after-loop-p c = out-length _ _ _ _ _ _ _ _ _ _ c.loop-p.invariant

pub shape_of-table-after-loop-p : goal.shape_of-table-after-loop-p
shape_of-table-after-loop-p c = table-length _ _ _ _ _ _ _ _ _ _ c.loop-p.invariant

pub shape_of-records-after-loop-p : goal.shape_of-records-after-loop-p
shape_of-records-after-loop-p c = records-length _ _ _ _ _ _ _ _ _ _ c.loop-p.invariant
