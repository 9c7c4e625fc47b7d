-- `table_rules::gf8::inverse` meets its contract: what is multiplied and the squares that are left give the inverse.
-- Assumes nothing.
use Rattle.std.proofs.Common.{◌≡◌, ◌-◌}
use Rattle.field.specs.Gf8.{squares, mul8, inverse}
use Rattle.table_rules.proofs.gf8.inverse.Given as goal

abbrev pub invariant-loop : goal.invariant-loop
invariant-loop l = squares (mul8 l.p) (7 - l.counter) l.r l.s ≡ inverse l.p l.a
