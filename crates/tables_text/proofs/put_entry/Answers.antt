-- `tables_text::put_entry` meets its contract: the digits, and the byte behind them.
-- Assumes nothing.
use Rattle.std.proofs.Common.{rules}
use Rattle.tables_text.proofs.Entries.{entry-put}
use Rattle.tables_text.proofs.put_entry.Goals as goal

pub returns : goal.returns
returns g c = entry-put _ _ _ _ (search rules) c.fill.ensures c.put.ensures c.put-2.ensures
