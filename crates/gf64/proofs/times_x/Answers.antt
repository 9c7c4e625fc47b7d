-- `gf64::times_x` meets its contract: a moved up by a digit, and what the polynomial has below x^64 where one left above.
-- Assumes nothing.
use Rattle.gf64.specs.Gf64.{by_x}
use Rattle.gf64.proofs.times_x.Goals as goal

pub returns : goal.returns
unfolding by_x
returns c = rw c.if_one.ensures
