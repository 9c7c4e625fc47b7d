-- `kcipher2::one_or_two` meets its contract: both products are by tables that hold their field's, and one is picked.
-- Assumes nothing.
use Rattle.std.proofs.Common.{ℕ, List, sym, subst}
use Rattle.field.specs.Gf32.{Products}
use Rattle.kcipher2_tables.specs.Tables.{field1, field2}
use Rattle.kcipher2.specs.Cipher.{one_or_two}
use Rattle.kcipher2_tables.proofs.Rules.{alpha1-rule, alpha2-rule}
use Rattle.kcipher2.proofs.one_or_two.Goals as goal

pub returns : goal.returns
unfolding one_or_two
returns c =
    rw (
      c.pick.ensures,
      c.times_alpha-2.ensures field2 (subst (λ (t : List ℕ). Products field2 field2.y4 t) (sym c.alpha2-m2.ensures) alpha2-rule),
      c.times_alpha.ensures field1 (subst (λ (t : List ℕ). Products field1 field1.y4 t) (sym c.alpha1-m1.ensures) alpha1-rule),
    )
