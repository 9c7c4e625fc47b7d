-- `zuc::linear2` meets its contract: each rotation is the standard's.
-- Assumes nothing.
use Rattle.std.proofs.Common.{lit<}
use Rattle.words.proofs.Rotations.{rotated}
use Rattle.zuc.specs.Cipher.{l2}
use Rattle.zuc.proofs.linear2.Goals as goal

pub returns : goal.returns
unfolding l2
returns c =
    rw (
      c.rotate_left-4.ensures,
      c.rotate_left-3.ensures,
      c.rotate_left-2.ensures,
      c.rotate_left.ensures,
      rotated 30 c.args.x (lit< tt) (lit< tt) c.ranges.x.fits,
      rotated 22 c.args.x (lit< tt) (lit< tt) c.ranges.x.fits,
      rotated 14 c.args.x (lit< tt) (lit< tt) c.ranges.x.fits,
      rotated 8 c.args.x (lit< tt) (lit< tt) c.ranges.x.fits,
    )
