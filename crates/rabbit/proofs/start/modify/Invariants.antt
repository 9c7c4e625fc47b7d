-- `rabbit::start::modify` meets its contract. The loop's invariant: the first i counters are modified.
-- Assumes nothing.
use Rattle.std.proofs.Common.{◌≡◌, ℕ, ◌+◌, ◌%◌, List, ◌++◌, get_or, drop}
use Rattle.words.specs.Word.{◌⊕◌}
use Rattle.words.specs.Lists.{tab}
use Rattle.rabbit.specs.Cipher.{at8}
use Rattle.rabbit.proofs.start.modify.Given as goal

-- counter j after step 4
abbrev pub modified_at : (x c v : List ℕ) → ℕ → ℕ
modified_at x c v j = get_or c j 0 ⊕ at8 x (j + 4) ⊕ get_or v (j % 4) 0

abbrev pub invariant-loop-i : goal.invariant-loop-i
invariant-loop-i l = l.next ≡ tab l.i (modified_at l.x l.c l.v) ++ drop l.i l.c
