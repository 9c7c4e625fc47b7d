-- `card_parks::take_up` meets its contract: the number that is held of the line is 0.
-- Assumes nothing.
use Rattle.card_parks.proofs.Parks.{taken-put}
use Rattle.card_parks.proofs.take_up.Goals as goal

pub returns : goal.returns
returns c = taken-put c.args.card.now c.args.i
