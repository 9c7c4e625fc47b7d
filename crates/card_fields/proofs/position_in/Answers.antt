-- `card_fields::position_in` meets its contract: each half is read from its own place.
-- Assumes nothing.
use Rattle.machine.proofs.Fields.{image-position}
use Rattle.card_fields.proofs.position_in.Goals as goal

pub returns : goal.returns
returns c = rw (image-position _) cc
