-- `session::finish` meets its contract: the text that is put to is the table.
-- Assumes nothing.
use Rattle.std.proofs.Common.{rules}
use Rattle.text.proofs.Pieces.{written-at}
use Rattle.session.proofs.finish.Goals as goal

pub returns : goal.returns
returns c = let m = written-at c.new-text.ensures.len_is c.new-text.ensures.out_is c.put_end.ensures in search (rules, m)
