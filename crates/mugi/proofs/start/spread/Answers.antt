-- `mugi::start::spread` meets its contract: what its parts ensure, put together.
-- Assumes nothing.
use Rattle.std.proofs.Common.{arith}
use Rattle.mugi.proofs.Rotations.{rotated, rotated_right}
use Rattle.mugi.specs.Cipher.{spread}
use Rattle.mugi.proofs.start.spread.Goals as goal

pub returns : goal.returns
unfolding spread
returns c =
    rw (
      c.rotate_left.ensures,
      rotated 7 c.block_at-k0.result (omega arith) (omega arith) (omega arith),
      c.rotate_right.ensures,
      rotated_right 7 c.block_at-k1.result (omega arith) (omega arith) (omega arith),
      c.block_at-k1.ensures,
      c.block_at-k0.ensures,
    )
