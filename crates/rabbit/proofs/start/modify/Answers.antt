-- `rabbit::start::modify` meets its contract. The loop's invariant: the first i counters are modified.
-- Assumes nothing.
use Rattle.std.proofs.Common.{arith, rules}
use Rattle.words.proofs.Registers.{fill}
use Rattle.rabbit.specs.Cipher.{modified}
use Rattle.rabbit.proofs.Filling.{whole}
use Rattle.rabbit.proofs.start.modify.Invariants.{modified_at}
use Rattle.rabbit.proofs.start.modify.Goals as goal

pub loop-i-preserved : goal.loop-i-preserved
loop-i-preserved c =
    rw c.loop-i.invariant (fill c.loop-i.i (modified_at c.args.x c.args.c c.args.v) c.args.c (search rules))

pub returns : goal.returns
unfolding modified
returns c = whole 8 c.loop-i.i (modified_at c.args.x c.args.c c.args.v) c.args.c c.loop-i.next (omega arith) (search rules) c.loop-i.invariant
