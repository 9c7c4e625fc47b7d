-- `table_rules::gf8::if_one` meets its contract: a digit that is not 0 is 1.
-- Assumes nothing.
use Rattle.field.proofs.Turns.{if_one-none, if_one-one}
use Rattle.table_rules.proofs.gf8.if_one.Goals as goal

pub returns-then-d-eq0 : goal.returns-then-d-eq0
returns-then-d-eq0 c = if_one-none c.args.d c.args.a c.if-d-eq0.true

pub returns : goal.returns
returns c = if_one-one c.args.d c.args.a c.if-d-eq0.false
