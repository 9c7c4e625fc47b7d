-- `gf64::mul` meets its contract: what is summed and what the digits that are left give is the product.
-- Assumes nothing.
use Rattle.std.proofs.Common.{◌≡◌, ◌-◌}
use Rattle.words.specs.Word.{◌⊕◌}
use Rattle.field.specs.Gf2.{mul_digits}
use Rattle.gf64.specs.Gf64.{by_x, mul}
use Rattle.gf64.proofs.mul.Given as goal

abbrev pub invariant-loop : goal.invariant-loop
invariant-loop l = l.sum ⊕ mul_digits by_x (64 - l.counter) l.x l.y ≡ mul l.a l.b
