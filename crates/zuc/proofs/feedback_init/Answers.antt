-- `zuc::feedback_init` meets its contract: a sum has the remainder of its summands' remainders.
-- Assumes nothing.
use Rattle.std.proofs.Common.{ap, arith}
use Rattle.zuc.specs.Cipher.{mended}
use Rattle.zuc.proofs.feedback_init.Goals as goal

pub returns : goal.returns
returns c = rw c.feedback.ensures (ap mended (omega arith))
