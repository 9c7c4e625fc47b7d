-- `session_table::put_row` meets its contract: each figure goes behind the one before it.
-- Assumes nothing.
use Rattle.std.proofs.Common.{arith}
use Rattle.text.proofs.Pieces.{written-more, written-room}
use Rattle.session_table.specs.Table.{call_row}
use Rattle.session_table.proofs.put_row.Goals as goal

pub put_figure-requires-2 : goal.put_figure-requires-2
put_figure-requires-2 c = let h = written-room _ _ c.put_figure.ensures 84 c.requires in omega arith

pub put_figure-requires-3 : goal.put_figure-requires-3
put_figure-requires-3 c = let h = written-room _ _ c.put_figure-2.ensures 63 (written-room _ _ c.put_figure.ensures 84 c.requires) in omega arith

pub put_figure-requires-4 : goal.put_figure-requires-4
put_figure-requires-4 c = let h = written-room _ _ c.put_figure-3.ensures 42 (written-room _ _ c.put_figure-2.ensures 63 (written-room _ _ c.put_figure.ensures 84 c.requires)) in omega arith

pub put_figure-requires-5 : goal.put_figure-requires-5
put_figure-requires-5 c = let h = written-room _ _ c.put_figure-4.ensures 21 (written-room _ _ c.put_figure-3.ensures 42 (written-room _ _ c.put_figure-2.ensures 63 (written-room _ _ c.put_figure.ensures 84 c.requires))) in omega arith

pub returns : goal.returns
unfolding call_row
returns c = written-more (written-more (written-more (written-more c.put_figure.ensures c.put_figure-2.ensures) c.put_figure-3.ensures) c.put_figure-4.ensures) c.put_figure-5.ensures
