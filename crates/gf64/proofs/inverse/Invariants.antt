-- `gf64::inverse` meets its contract: what is multiplied and the squares that are left give the inverse.
-- Assumes nothing.
use Rattle.std.proofs.Common.{◌≡◌, ◌-◌}
use Rattle.field.specs.Gf2.{squares}
use Rattle.gf64.specs.Gf64.{mul, reciprocal}
use Rattle.gf64.proofs.inverse.Given as goal

abbrev pub invariant-loop : goal.invariant-loop
invariant-loop l = squares mul (63 - l.counter) l.r l.s ≡ reciprocal l.a
