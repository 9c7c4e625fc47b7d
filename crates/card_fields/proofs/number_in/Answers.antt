-- `card_fields::number_in` meets its contract: it is the word behind the line that parked.
-- Assumes nothing.
use mathlib.Core.Path.{sym, ◌∙◌}
use Rattle.machine.proofs.Fields.{image-number}
use Rattle.card_fields.proofs.number_in.Goals as goal

pub returns : goal.returns
returns c = c.word_at.ensures ∙ sym (image-number _)
