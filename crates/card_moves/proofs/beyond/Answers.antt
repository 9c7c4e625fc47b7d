-- `card_moves::beyond` meets its contract: past the change the bytes after it are judged, else the position and the count, by differences.
-- Assumes nothing.
use mathlib.Core.Path.{sym, ◌∙◌}
use native.Mathlib.Omega.{arith}
use borrow.Author.Tests.{lt-ltb}
use Rattle.card_moves.proofs.Due.{due-told, past_is, over-is, short-is}
use Rattle.card_moves.proofs.beyond.Goals as goal

pub overflow_sub-result : goal.overflow_sub-result
overflow_sub-result c = let h = due-told c.args.n c.args.due c.args.count (sym c.comes_due.ensures ∙ c.if-comes_due.true) in omega (arith, h.0)

pub overflow_sub-result-then-comes_due : goal.overflow_sub-result-then-comes_due
overflow_sub-result-then-comes_due c = let h = due-told c.args.n c.args.due c.args.count (sym c.comes_due.ensures ∙ c.if-comes_due.true) in omega (arith, h.1)

pub returns-then-comes_due : goal.returns-then-comes_due
returns-then-comes_due c = past_is c.args.n c.args.due c.args.count (sym c.comes_due.ensures ∙ c.if-comes_due.true)

pub returns-then-count-gt-LIMIT : goal.returns-then-count-gt-LIMIT
returns-then-count-gt-LIMIT c =
    lt-ltb _ _ c.if-count-gt-LIMIT.true ∙ over-is c.args.n c.args.due c.args.count (sym c.comes_due.ensures ∙ c.if-comes_due.false) c.if-count-gt-LIMIT.true

pub returns-else-count-gt-LIMIT : goal.returns-else-count-gt-LIMIT
returns-else-count-gt-LIMIT c = short-is c.args.n c.args.due c.args.count (sym c.comes_due.ensures ∙ c.if-comes_due.false) c.if-count-gt-LIMIT.false
