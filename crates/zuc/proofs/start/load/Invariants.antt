-- `zuc::start::load` meets its contract. The loop's invariant: the first i cells are those of key, constant and IV.
-- Assumes nothing.
use Rattle.std.proofs.Common.{◌≡◌, ◌++◌, drop}
use Rattle.words.specs.Lists.{tab}
use Rattle.zuc.specs.Cipher.{loaded_cell}
use Rattle.zuc.proofs.start.load.Given as goal

abbrev pub invariant-loop-i : goal.invariant-loop-i
invariant-loop-i l = l.a ≡ tab l.i (loaded_cell l.key l.iv) ++ drop l.i l.initial.a
