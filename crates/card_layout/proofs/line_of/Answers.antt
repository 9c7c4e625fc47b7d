-- `card_layout::line_of` meets its contract: the part that is lent is the line's, and has its words.
-- Assumes nothing.
use Rattle.card_layout.proofs.Cards.{part-is, part_length, line-part}
use Rattle.card_layout.proofs.line_of.Goals as goal

pub returns : goal.returns
returns c =
    record {
      words = part-is c.args.card.now c.args.i c.requires.1 c.requires.0;
      len = part_length c.args.card.now c.args.i c.requires.1 c.requires.0;
      line = line-part c.args.card.now c.args.i c.requires.1 c.requires.0;
    }
