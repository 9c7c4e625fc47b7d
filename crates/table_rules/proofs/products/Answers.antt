-- `table_rules::products` meets its contract: the first k entries are the products.
-- Assumes nothing.
use Rattle.field.specs.Gf32.{scaled}
use Rattle.table_rules.specs.Rules.{products_of}
use Rattle.table_rules.proofs.Tables.{entered-none, entered-more, entered_all}
use Rattle.std.proofs.Common.{arith}
use Rattle.table_rules.proofs.products.Goals as goal

pub loop-k-init : goal.loop-k-init
loop-k-init c = entered-none (λ i. scaled c.args.p i c.args.v)

pub loop-k-preserved : goal.loop-k-preserved
loop-k-preserved c =
    entered-more (λ j. scaled c.args.p j c.args.v) c.loop-k-test.true c.scaled.ensures c.loop-k.invariant

pub returns : goal.returns
unfolding products_of
returns c = let q = entered_all (λ i. scaled c.args.p i c.args.v) (omega arith) c.loop-k.invariant in record { value = q.0; value_2 = q.1 }
