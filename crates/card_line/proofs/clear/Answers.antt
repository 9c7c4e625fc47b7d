-- `card_line::clear` meets its contract: the words of an idle line are all zero.
-- Assumes nothing.
use Rattle.std.proofs.Common.{ap, ◌∙◌, replicate}
use Rattle.card_line.specs.Words.{line_words}
use Rattle.card_line.proofs.clear.Goals as goal

pub returns : goal.returns
unfolding line_words
returns c = c.fill.ensures.after (λ _ h. h) ∙ ap (λ n. replicate n 0) c.requires
