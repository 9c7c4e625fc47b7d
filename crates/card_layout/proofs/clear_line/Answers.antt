-- `card_layout::clear_line` meets its contract: the part that is lent is the line's, and is all zeros.
-- Assumes nothing.
use Rattle.card_layout.proofs.Cards.{part-put}
use Rattle.card_layout.proofs.clear_line.Goals as goal

pub returns : goal.returns
returns c = part-put c.args.card.now c.args.i c.requires.1 c.requires.0 _ _ c.clear.ensures
