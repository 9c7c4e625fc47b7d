-- `zuc::feedback` meets its contract: a fold of a positive number of 62 bits is positive, has 32 bits and has the same remainder.
-- Assumes nothing.
use Rattle.std.proofs.Common.{arith}
use Rattle.zuc.proofs.Folds.{fold-mod, fold-pos, fold-once}
use Rattle.zuc.proofs.feedback.Goals as goal

pub last_fold-requires : goal.last_fold-requires
last_fold-requires c =
    let p = fold-pos 31 c.args.sum c.requires.0 in
    let o = fold-once 31 c.args.sum c.requires.1 in
    (omega arith, omega arith)

pub returns : goal.returns
returns c = rw (c.last_fold.ensures, c.fold-once.ensures, fold-mod 31)
