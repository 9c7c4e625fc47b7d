-- `card_fields::cipher_in` meets its contract: it is the first byte.
-- Assumes nothing.
use mathlib.Core.Path.{sym}
use Rattle.machine.proofs.Fields.{image-cipher}
use Rattle.card_fields.proofs.cipher_in.Goals as goal

pub returns : goal.returns
returns c = sym (image-cipher _)
