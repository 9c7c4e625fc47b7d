-- `card_spelt::key_words` meets its contract: the words before i are those of the key, and zeros come behind the last.
-- Assumes nothing.
use mathlib.Core.Path.{◌≡◌}
use mathlib.Core.List.{◌++◌}
use Prim.Native.Nat.{◌-◌, ◌*◌}
use lib.ListN.{drop}
use Rattle.words.specs.Lists.{tab}
use Rattle.words.specs.Strings.{word_at}
use Rattle.card_spelt.proofs.key_words.Given as goal

abbrev pub invariant-loop-i : goal.invariant-loop-i
invariant-loop-i l = l.w ≡ tab l.i (λ k. word_at l.key (4 * k)) ++ drop l.i l.initial.w
