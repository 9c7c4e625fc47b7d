-- `mugi::Mugi::second` meets its contract: F of a1 and b10, rotated.
-- Assumes nothing.
use Rattle.std.proofs.Common.{◌^◌, ◌<◌, get_or, arith, rules}
use Rattle.mugi.proofs.Rotations.{rotated}
use Rattle.mugi.specs.Steps.{second}
use Rattle.mugi.proofs.Mugi.second.Goals as goal

pub returns : goal.returns
unfolding second
returns c =
    let fits : get_or c.args.self.b 10 0 < 2 ^ 64 = search rules in
    rw (c.f.ensures, c.rotate_left.ensures, rotated 17 (get_or c.args.self.b 10 0) (omega arith) (omega arith) fits)
