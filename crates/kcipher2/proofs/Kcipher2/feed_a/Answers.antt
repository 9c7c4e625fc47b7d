-- `kcipher2::Kcipher2::feed_a` meets its contract: the product is by the table, which holds the field's.
-- Assumes nothing.
use Rattle.std.proofs.Common.{ℕ, List, sym, subst}
use Rattle.field.specs.Gf32.{Products}
use Rattle.kcipher2_tables.specs.Tables.{field0}
use Rattle.kcipher2.specs.Cipher.{fed_a}
use Rattle.kcipher2_tables.proofs.Rules.{alpha0-rule}
use Rattle.kcipher2.proofs.Kcipher2.feed_a.Goals as goal

pub returns : goal.returns
unfolding fed_a
returns c = rw (c.times_alpha.ensures field0 (subst (λ (t : List ℕ). Products field0 field0.y4 t) (sym c.alpha0.ensures) alpha0-rule))
