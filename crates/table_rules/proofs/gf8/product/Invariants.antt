-- `table_rules::gf8::product` meets its contract: what is summed and what the digits that are left give is the product.
-- Assumes nothing.
use Rattle.std.proofs.Common.{◌≡◌, ◌-◌}
use Rattle.words.specs.Word.{◌⊕◌}
use Rattle.field.specs.Gf2.{times_x, mul_digits}
use Rattle.field.specs.Gf8.{mul8}
use Rattle.table_rules.proofs.gf8.product.Given as goal

abbrev pub invariant-loop : goal.invariant-loop
invariant-loop l = l.sum ⊕ mul_digits (times_x 8 l.p) (8 - l.counter) l.x l.y ≡ mul8 l.p l.a l.b
