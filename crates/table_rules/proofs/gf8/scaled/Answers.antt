-- `table_rules::gf8::scaled` meets its contract: the bytes of w, each times k, joined.
-- Assumes nothing.
use Rattle.field.specs.Gf8.{mul8}
use Rattle.table_rules.proofs.Steps.{joined_by}
use Rattle.table_rules.proofs.gf8.scaled.Goals as goal

pub returns : goal.returns
returns c =
    joined_by (λ x. mul8 c.args.p x c.args.k) c.args.w c.bytes-b.ensures c.product.ensures c.product-2.ensures c.product-3.ensures
    c.product-4.ensures c.join.ensures
