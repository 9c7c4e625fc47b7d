-- `card_line::put_change` meets its contract: the position and the words behind it, each in its place.
-- Assumes nothing.
use Rattle.card_line.proofs.Lines.{change-put}
use Rattle.card_line.proofs.put_change.Goals as goal

pub returns : goal.returns
returns c =
    change-put c.args.p c.args.state.now c.args.line.now _ _ c.requires.line_held c.put_number.ensures c.copy_from_slice.ensures.after
