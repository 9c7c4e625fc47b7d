-- `zuc::linear1` meets its contract: each rotation is the standard's.
-- Assumes nothing.
use Rattle.std.proofs.Common.{lit<}
use Rattle.words.proofs.Rotations.{rotated}
use Rattle.zuc.specs.Cipher.{l1}
use Rattle.zuc.proofs.linear1.Goals as goal

pub returns : goal.returns
unfolding l1
returns c =
    rw (
      c.rotate_left-4.ensures,
      c.rotate_left-3.ensures,
      c.rotate_left-2.ensures,
      c.rotate_left.ensures,
      rotated 24 c.args.x (lit< tt) (lit< tt) c.ranges.x.fits,
      rotated 18 c.args.x (lit< tt) (lit< tt) c.ranges.x.fits,
      rotated 10 c.args.x (lit< tt) (lit< tt) c.ranges.x.fits,
      rotated 2 c.args.x (lit< tt) (lit< tt) c.ranges.x.fits,
    )
