-- `session::begin` meets its contract: the text that is put to is the table.
-- Assumes nothing.
use Rattle.std.proofs.Common.{rules}
use Rattle.text.proofs.Pieces.{written-at}
use Rattle.session.proofs.begin.Goals as goal

pub returns : goal.returns
returns c = let m = written-at c.new-text.ensures.len_is c.new-text.ensures.out_is c.put_columns.ensures in search (rules, m)
