-- `card_spelt::put_words` meets its contract: the bytes of the words before i stand at the start.
-- Assumes nothing.
use Prim.Native.Nat.{◌-◌, ◌*◌}
use lib.ListN.{take}
use Rattle.ciphers.specs.States.{spelt}
use Rattle.buffer.proofs.Fronts.{Front}
use Rattle.card_spelt.proofs.put_words.Given as goal

abbrev pub invariant-loop-i : goal.invariant-loop-i
invariant-loop-i l = Front (spelt (take l.i l.w)) l.initial.out l.out (4 * l.i)
