-- `card_parks::park_count` meets its contract: the counts stand behind the lines.
-- Assumes nothing.
use Rattle.card_parks.proofs.Parks.{count-is}
use Rattle.card_parks.proofs.park_count.Goals as goal

pub returns : goal.returns
returns c = count-is c.args.card.now c.args.i c.requires.1
