-- `table_rules::substitution` meets its contract: the first k entries are the affine map of the inverse.
-- Assumes nothing.
use mathlib.Core.Path.{◌∙◌}
use Rattle.field.specs.Gf8.{inverse}
use Rattle.field.specs.Aes.{affine}
use Rattle.table_rules.specs.Rules.{substitution_of}
use Rattle.table_rules.proofs.Tables.{entered-none, entered-more, entered_all}
use Rattle.std.proofs.Common.{arith}
use Rattle.table_rules.proofs.substitution.Goals as goal

pub loop-k-init : goal.loop-k-init
loop-k-init c = entered-none (λ i. affine (inverse c.args.p i))

pub loop-k-preserved : goal.loop-k-preserved
loop-k-preserved c =
    entered-more (λ j. affine (inverse c.args.p j)) c.loop-k-test.true (c.wide.ensures.0 ∙ c.substituted.ensures) c.loop-k.invariant

pub returns : goal.returns
unfolding substitution_of
returns c = let q = entered_all (λ i. affine (inverse c.args.p i)) (omega arith) c.loop-k.invariant in record { value = q.0; value_2 = q.1 }
