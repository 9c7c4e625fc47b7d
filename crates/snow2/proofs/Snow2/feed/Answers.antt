-- `snow2::Snow2::feed` meets its contract: the products are by the tables, which hold the field's.
-- Assumes nothing.
use Rattle.std.proofs.Common.{ℕ, List, sym, subst}
use Rattle.field.specs.Gf32.{Products}
use Rattle.snow2_tables.specs.Tables.{field}
use Rattle.snow2.specs.Cipher.{fed}
use Rattle.snow2_tables.proofs.Rules.{alpha-rule}
use Rattle.snow2.proofs.Snow2.feed.Goals as goal

pub returns : goal.returns
unfolding fed
returns c = rw (c.times_inverse.ensures, c.times_alpha.ensures field (subst (λ (t : List ℕ). Products field field.y4 t) (sym c.alpha.ensures) alpha-rule))
