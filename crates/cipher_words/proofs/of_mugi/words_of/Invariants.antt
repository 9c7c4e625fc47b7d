-- `cipher_words::of_mugi::words_of` meets its contract. The loop's invariant: the first 2 i words are the halves of the first i blocks.
-- Assumes nothing.
use mathlib.Core.Path.{◌≡◌}
use mathlib.Core.List.{◌++◌}
use Prim.Native.Nat.{◌*◌}
use lib.ListN.{drop, get_or}
use Rattle.words.specs.Lists.{tab}
use Rattle.ciphers.specs.States.{halves}
use Rattle.cipher_words.proofs.of_mugi.words_of.Given as goal

abbrev pub invariant-loop-i : goal.invariant-loop-i
invariant-loop-i l = l.w ≡ tab (2 * l.i) (λ k. get_or (halves l.x) k 0) ++ drop (2 * l.i) l.initial.w
