-- `text::Text::put_figure` meets its contract: the fewest digits that hold n are its digits with no zeros in front, and the byte is put behind them.
-- Assumes nothing.
use Rattle.std.proofs.Common.{rules}
use Rattle.text.proofs.Digits.{decimal-text}
use Rattle.text.proofs.Pieces.{written-more}
use Rattle.text.proofs.Text.put_figure.Goals as goal

pub returns : goal.returns
returns c =
    written-more (rw (decimal-text c.args.n _ _ (search rules) c.decimal-k.ensures.len c.decimal-k.ensures.digits) at c.put.ensures) c.put-2.ensures
