-- `card_layout::put_line` meets its contract: the part that is lent is the line's, and has its words.
-- Assumes nothing.
use Rattle.card_layout.proofs.Cards.{part-put}
use Rattle.card_layout.proofs.put_line.Goals as goal

pub returns : goal.returns
returns c = part-put c.args.card.now c.args.i c.requires.card_len.1 c.requires.card_len.0 _ _ c.put_words.ensures
