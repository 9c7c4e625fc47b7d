-- `card_mix::Column::mix` meets its contract: the total first, and then each place.
-- Assumes nothing.
use Rattle.card_mix.proofs.Columns.{column-is}
use Rattle.card_mix.proofs.Column.mix.Goals as goal

pub returns : goal.returns
returns c =
    column-is c.args.self.members c.args.self.size c.args.self.at c.args.s.now _ c.total.ensures.0 c.share_out.ensures
