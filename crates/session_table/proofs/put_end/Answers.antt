-- `session_table::put_end` meets its contract: the word, and each figure behind it.
-- Assumes nothing.
use Rattle.std.proofs.Common.{arith}
use Rattle.text.proofs.Pieces.{behind-length, written-more, written-room}
use Rattle.session_table.specs.Table.{end_of}
use Rattle.session_table.proofs.put_end.Goals as goal

pub put_figure-requires-2 : goal.put_figure-requires-2
put_figure-requires-2 c =
    let e = c.put.ensures.behind.end in
    let l = behind-length c.put.ensures.behind in
    written-room _ _ c.put_figure.ensures 21 (omega arith)

pub returns : goal.returns
unfolding end_of
returns c = written-more (written-more c.put.ensures c.put_figure.ensures) c.put_figure-2.ensures
