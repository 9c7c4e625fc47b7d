-- `card_parks::put_parked` meets its contract: two words are stored.
-- Assumes nothing.
use Rattle.card_parks.proofs.Parks.{parked-put}
use Rattle.card_parks.proofs.put_parked.Goals as goal

pub returns : goal.returns
returns c = parked-put c.args.card.now c.args.i c.args.n c.requires.card_len.1 c.requires.n_value
