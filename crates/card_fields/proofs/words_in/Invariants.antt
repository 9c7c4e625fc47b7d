-- `card_fields::words_in` meets its contract: the first i words are those of the image.
-- Assumes nothing.
use Prim.Native.Nat.{◌+◌, ◌-◌, ◌*◌}
use mathlib.Core.Path.{◌≡◌}
use mathlib.Core.List.{◌++◌}
use lib.ListN.{drop}
use Rattle.words.specs.Lists.{tab}
use Rattle.words.specs.Strings.{word_at}
use Rattle.card_fields.proofs.words_in.Given as goal

abbrev pub invariant-loop-i : goal.invariant-loop-i
invariant-loop-i l = l.w ≡ tab l.i (λ k. word_at l.s (14 + 4 * k)) ++ drop l.i l.initial.w
