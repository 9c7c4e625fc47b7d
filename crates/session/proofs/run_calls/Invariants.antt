-- `session::run_calls` meets its contract: each turn takes the first of the calls that are left.
-- Assumes nothing.
use Prim.Native.Nat.{◌+◌, ◌-◌}
use lib.Dec.{eqb}
use lib.ListN.{length}
use borrow.Author.Tests.{ltb-true, ltb-false}
use Rattle.words.specs.Tests.{pick}
use Rattle.session.proofs.Sofar.{Sofar, out-length, table-length, records-length, sofar-start, ready, sofar-next, falls, sofar-end}
use borrow.Author.Rules.{rules}
use Rattle.session.proofs.run_calls.Given as goal

abbrev pub invariant-loop-p : goal.invariant-loop-p
invariant-loop-p l = Sofar l.commands l.tray l.text l.initial.out l.initial.table l.initial.records l.p l.out l.table l.records

abbrev pub decreases-loop-p : goal.decreases-loop-p
decreases-loop-p l = length l.commands - l.p.command + pick (eqb l.p.code 0) 1 0
