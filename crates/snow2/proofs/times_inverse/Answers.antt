-- `snow2::times_inverse` meets its contract: w moved down, with what the table has for its lowest byte, is the product.
-- Assumes nothing.
use Rattle.snow2_tables.proofs.Rules.{inverse-times}
use Rattle.snow2.proofs.times_inverse.Goals as goal

pub returns : goal.returns
returns c = rw c.inverse-t.ensures (inverse-times c.args.w c.ranges.w.fits)
