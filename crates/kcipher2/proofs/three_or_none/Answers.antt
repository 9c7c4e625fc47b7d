-- `kcipher2::three_or_none` meets its contract: the product is by a table that holds the field's, and one of the two is picked.
-- Assumes nothing.
use Rattle.std.proofs.Common.{ℕ, List, sym, subst}
use Rattle.field.specs.Gf32.{Products}
use Rattle.kcipher2_tables.specs.Tables.{field3}
use Rattle.kcipher2.specs.Cipher.{three_or_none}
use Rattle.kcipher2_tables.proofs.Rules.{alpha3-rule}
use Rattle.kcipher2.proofs.three_or_none.Goals as goal

pub returns : goal.returns
unfolding three_or_none
returns c = rw (c.pick.ensures, c.times_alpha.ensures field3 (subst (λ (t : List ℕ). Products field3 field3.y4 t) (sym c.alpha3.ensures) alpha3-rule))
