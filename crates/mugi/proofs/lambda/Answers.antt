-- `mugi::lambda` meets its contract: the literal is the list.
-- Assumes nothing.
use Rattle.std.proofs.Common.{◌^◌, ◌<◌, get_or, arith, rules}
use Rattle.mugi.proofs.Rotations.{rotated}
use Rattle.mugi.specs.Cipher.{lambda1}
use Rattle.mugi.proofs.Rotations.{rotated}
use Rattle.mugi.proofs.lambda.Goals as goal

pub returns : goal.returns
unfolding lambda1
returns c =
    let fits : get_or c.args.b 13 0 < 2 ^ 64 = search rules in
    rw (c.rotate_left-y.ensures, rotated 32 (get_or c.args.b 13 0) (omega arith) (omega arith) fits)
