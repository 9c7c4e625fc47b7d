-- `card_mix::clamp` meets its contract: nothing below the least, nothing above the most.
-- Assumes nothing.
use Rattle.card_mix.proofs.Columns.{clamp-is}
use Rattle.card_mix.proofs.clamp.Goals as goal

pub returns : goal.returns
returns c = clamp-is c.args.sum c.args.count c.saturating_sub-x.ensures c.min.ensures
