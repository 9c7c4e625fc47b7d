-- `rabbit::odd` meets its contract: what its parts ensure, put together.
-- Assumes nothing.
use Rattle.std.proofs.Common.{lit<}
use Rattle.words.proofs.Rotations.{rotated}
use Rattle.rabbit.proofs.odd.Goals as goal

pub returns : goal.returns
returns c = rw (c.rotate_left.ensures, rotated 8 c.args.b (lit< tt) (lit< tt) c.ranges.b.fits)
