-- The tables of KCipher-2 hold what they stand for: entry k is the product of k with y^4 in the table's own field. Each list is computed from eight products.
-- Assumes nothing.
use mathlib.Core.Path.{refl}
use Rattle.field.specs.Gf32.{Products}
use Rattle.field.proofs.Elements.{products}
use Rattle.kcipher2_tables.specs.Tables.{field0, field1, field2, field3, alpha0_list, alpha1_list, alpha2_list, alpha3_list}

pub alpha0-rule : Products field0 field0.y4 alpha0_list
unfolding alpha0_list
alpha0-rule = products field0 field0.y4 alpha0_list refl

pub alpha1-rule : Products field1 field1.y4 alpha1_list
unfolding alpha1_list
alpha1-rule = products field1 field1.y4 alpha1_list refl

pub alpha2-rule : Products field2 field2.y4 alpha2_list
unfolding alpha2_list
alpha2-rule = products field2 field2.y4 alpha2_list refl

pub alpha3-rule : Products field3 field3.y4 alpha3_list
unfolding alpha3_list
alpha3-rule = products field3 field3.y4 alpha3_list refl
