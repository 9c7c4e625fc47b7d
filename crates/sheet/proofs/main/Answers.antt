-- `sheet::main` lends what the report left at the start of its buffer.
-- Assumes nothing.
use mathlib.Core.Path.{refl}
use Rattle.report.proofs.Sheet.{printed}
use borrow.Author.Rules.{rules}
use Rattle.sheet.proofs.main.Goals as goal

pub slice_bounds-out-end : goal.slice_bounds-out-end
slice_bounds-out-end c = (printed c.report-reported.ensures).0

pub slice_bounds-print-end-2 : goal.slice_bounds-print-end-2
slice_bounds-print-end-2 c = (printed c.report-reported.ensures).1
