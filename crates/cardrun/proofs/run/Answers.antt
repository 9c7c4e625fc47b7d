-- `cardrun::run` lends what the run left at the start of its buffers.
-- Assumes nothing.
use mathlib.Core.Path.{refl}
use Rattle.session.proofs.Left.{out-front, out_within, table-front, table-within, records-front, records-within}
use Rattle.cardrun.proofs.run.Goals as goal

pub slice_bounds-out-end : goal.slice_bounds-out-end
slice_bounds-out-end c = out_within c.run-ended.ensures.left

pub slice_bounds-records-end : goal.slice_bounds-records-end
slice_bounds-records-end c = records-within c.run-ended.ensures.left

pub slice_bounds-table-end : goal.slice_bounds-table-end
slice_bounds-table-end c = table-within c.run-ended.ensures.left

pub slice_bounds-print-end-2 : goal.slice_bounds-print-end-2
slice_bounds-print-end-2 c = table-front c.run-ended.ensures.left
