-- `table_rules::substitution` meets its contract: the first k entries are the affine map of the inverse.
-- Assumes nothing.
use Rattle.field.specs.Gf8.{inverse}
use Rattle.field.specs.Aes.{affine}
use Rattle.table_rules.proofs.Tables.{Entered}
use Rattle.table_rules.proofs.substitution.Given as goal

abbrev pub invariant-loop-k : goal.invariant-loop-k
invariant-loop-k l = Entered (λ i. affine (inverse l.p i)) l.t l.k
