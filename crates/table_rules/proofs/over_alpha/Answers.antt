-- `table_rules::over_alpha` meets its contract: the coefficients, each times 1/c0, are moved down by one, and 1/c0 stands above them.
-- Assumes nothing.
use Rattle.words.specs.Word.{b0}
use Rattle.words.proofs.Ranges.{byte_of}
use Rattle.field.specs.Gf8.{mul8, inverse}
use Rattle.field.specs.Gf32.{over_alpha}
use Rattle.field.proofs.Additive.{mul-byte}
use Rattle.table_rules.proofs.Steps.{over_by}
use Rattle.table_rules.proofs.over_alpha.Goals as goal

pub returns : goal.returns
unfolding over_alpha
returns c =
    over_by (mul8 c.args.p) (inverse c.args.p) c.args.c c.inverse-k.ensures c.wide.ensures.0 c.wide.ensures.1
    (mul-byte c.args.p 8 (b0 c.args.c) c.inverse-k.result (byte_of c.args.c)) c.scaled.ensures
