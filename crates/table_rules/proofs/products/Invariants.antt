-- `table_rules::products` meets its contract: the first k entries are the products.
-- Assumes nothing.
use Rattle.field.specs.Gf32.{scaled}
use Rattle.table_rules.proofs.Tables.{Entered}
use Rattle.table_rules.proofs.products.Given as goal

abbrev pub invariant-loop-k : goal.invariant-loop-k
invariant-loop-k l = Entered (λ i. scaled l.p i l.v) l.t l.k
