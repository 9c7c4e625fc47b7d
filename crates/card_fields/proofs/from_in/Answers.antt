-- `card_fields::from_in` meets its contract: it is the byte behind the position.
-- Assumes nothing.
use mathlib.Core.Path.{sym}
use Rattle.machine.proofs.Fields.{image-from}
use Rattle.card_fields.proofs.from_in.Goals as goal

pub returns : goal.returns
returns c = sym (image-from _)
