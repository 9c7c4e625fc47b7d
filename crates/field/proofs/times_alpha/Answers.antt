-- `field::times_alpha` meets its contract: w moved up, with what the table has for its highest byte, is α w.
-- Assumes nothing.
use Rattle.field.proofs.Elements.{alpha-by}
use Rattle.field.proofs.times_alpha.Goals as goal

pub returns : goal.returns
returns c = λ f h. alpha-by f c.args.t.now h c.args.w c.ranges.w.fits
