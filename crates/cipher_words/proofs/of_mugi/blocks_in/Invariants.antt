-- `cipher_words::of_mugi::blocks_in` meets its contract. The loop's invariant: the first i blocks are those that the words hold.
-- Assumes nothing.
use mathlib.Core.Path.{◌≡◌}
use mathlib.Core.List.{◌++◌}
use lib.ListN.{drop}
use Rattle.words.specs.Lists.{tab}
use Rattle.ciphers.specs.States.{block_in}
use Rattle.cipher_words.proofs.of_mugi.blocks_in.Given as goal

abbrev pub invariant-loop-i : goal.invariant-loop-i
invariant-loop-i l = l.x ≡ tab l.i (block_in l.w) ++ drop l.i l.initial.x
