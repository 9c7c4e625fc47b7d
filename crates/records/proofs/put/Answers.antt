-- `records::put` meets its contract: line and cipher, and behind them the bytes of the number's two words.
-- Assumes nothing.
use Rattle.records.proofs.Reading.{record-put}
use Rattle.records.proofs.put.Goals as goal

pub returns : goal.returns
returns c = record-put c.args.line c.args.cipher c.args.count c.to_be_bytes-n.ensures c.put.ensures
