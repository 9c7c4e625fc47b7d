-- `rabbit::start::parts` meets its contract. The loop's invariant: the first i parts are read.
-- Assumes nothing.
use Rattle.std.proofs.Common.{◌≡◌, ◌*◌, ◌++◌, drop}
use Rattle.words.specs.Lists.{tab}
use Rattle.rabbit.specs.Cipher.{half_at}
use Rattle.rabbit.proofs.start.parts.Given as goal

abbrev pub invariant-loop-i : goal.invariant-loop-i
invariant-loop-i g l = l.p ≡ tab l.i (λ j. half_at l.s (2 * j)) ++ drop l.i l.initial.p
