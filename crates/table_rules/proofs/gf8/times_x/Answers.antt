-- `table_rules::gf8::times_x` meets its contract: a moved up by a digit, and what p has below x^8 where one left above.
-- Assumes nothing.
use Rattle.table_rules.proofs.gf8.times_x.Goals as goal

pub returns : goal.returns
returns c = rw c.if_one.ensures
