-- `table_rules::gf8::mapped` meets its contract: a turned by one to four digits.
-- Assumes nothing.
use Rattle.std.proofs.Common.{lit≤}
use Rattle.words.proofs.Rotations.{apart}
use Rattle.table_rules.proofs.Steps.{mapped-is}
use Rattle.table_rules.proofs.gf8.mapped.Goals as goal

pub returns : goal.returns
returns c =
    rw (
      c.rotate_left.ensures,
      c.rotate_left-2.ensures,
      c.rotate_left-3.ensures,
      c.rotate_left-4.ensures,
      apart 8 1 c.args.a (lit≤ tt) c.ranges.a.fits,
      apart 8 2 c.args.a (lit≤ tt) c.ranges.a.fits,
      apart 8 3 c.args.a (lit≤ tt) c.ranges.a.fits,
      apart 8 4 c.args.a (lit≤ tt) c.ranges.a.fits,
    )
    (mapped-is c.args.a)
