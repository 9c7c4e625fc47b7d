-- `zuc::last_fold` meets its contract: a fold of a positive number below 2^32 - 1 is its mended remainder.
-- Assumes nothing.
use Rattle.std.proofs.Common.{arith}
use Rattle.zuc.proofs.Folds.{last-fold}
use Rattle.zuc.proofs.last_fold.Goals as goal

pub returns : goal.returns
returns c = rw (← last-fold c.args.x c.requires.0 c.requires.1) (omega arith)
