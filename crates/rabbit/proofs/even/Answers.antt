-- `rabbit::even` meets its contract: what its parts ensure, put together.
-- Assumes nothing.
use Rattle.std.proofs.Common.{lit<}
use Rattle.words.proofs.Rotations.{rotated}
use Rattle.rabbit.proofs.even.Goals as goal

pub returns : goal.returns
returns c =
    rw (
      c.rotate_left-2.ensures,
      c.rotate_left.ensures,
      rotated 16 c.args.b (lit< tt) (lit< tt) c.ranges.b.fits,
      rotated 16 c.args.c (lit< tt) (lit< tt) c.ranges.c.fits,
    )
