-- `writer::put_part` meets its contract. The loop's invariant: the first i bytes are written, and the rest is as it was.
-- Assumes nothing.
use mathlib.Core.Path.{◌≡◌}
use mathlib.Core.List.{◌++◌}
use lib.ListN.{get_or, take, drop}
use Rattle.keystream.specs.Stream.{xor_from}
use Rattle.writer.proofs.put_part.Given as goal

abbrev pub invariant-loop-i : goal.invariant-loop-i
invariant-loop-i l = l.out ≡ xor_from (λ j. get_or l.ks j 0) l.from (take l.i l.text) ++ drop l.i l.initial.out
