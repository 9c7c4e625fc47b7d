-- `mugi::shuffle` meets its contract: r turned by 48 has its halves at either end of a block, and between them is the place of l.
-- Assumes nothing.
use Rattle.std.proofs.Common.{◌≡◌, ◌^◌, ◌<◌, ◌∙◌, arith}
use Rattle.mugi.specs.Cipher.{rotl64}
use Rattle.mugi.proofs.Rotations.{rotated}
use Rattle.mugi.proofs.Blocks.{between, between-fits}
use Rattle.mugi.proofs.shuffle.Goals as goal

pub overflow_add-result : goal.overflow_add-result
overflow_add-result c =
    let h : c.args.r < 2 ^ 32 = omega arith in
    let l : c.args.l < 2 ^ 32 = omega arith in
    let e : c.rotate_left.result ≡ rotl64 48 c.args.r = c.rotate_left.ensures ∙ rotated 48 c.args.r (omega arith) (omega arith) (omega arith) in
    record { fits = between-fits c.args.r c.args.l c.rotate_left.result h l e }

pub returns : goal.returns
returns c =
    let h : c.args.r < 2 ^ 32 = omega arith in
    let e : c.rotate_left.result ≡ rotl64 48 c.args.r = c.rotate_left.ensures ∙ rotated 48 c.args.r (omega arith) (omega arith) (omega arith) in
    between c.args.r c.args.l c.rotate_left.result e
