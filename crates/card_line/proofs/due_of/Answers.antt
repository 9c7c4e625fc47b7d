use Rattle.card_line.specs.Words.{line_in}
use Rattle.card_line.proofs.due_of.Goals as goal

pub returns : goal.returns
unfolding line_in
returns c = c.number_at.ensures
