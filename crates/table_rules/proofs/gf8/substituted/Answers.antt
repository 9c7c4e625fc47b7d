-- `table_rules::gf8::substituted` meets its contract: the affine map of the inverse.
-- Assumes nothing.
use Rattle.field.specs.Aes.{affine}
use Rattle.table_rules.proofs.Steps.{made_of}
use Rattle.table_rules.proofs.gf8.substituted.Goals as goal

pub returns : goal.returns
returns c = made_of affine c.inverse.ensures c.mapped.ensures
