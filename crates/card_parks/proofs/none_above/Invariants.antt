-- `card_parks::none_above` meets its contract: of no line before i the held number is above the line's count.
-- Assumes nothing.
use mathlib.Core.Path.{◌≡◌}
use mathlib.Core.Bool.{true}
use Prim.Native.Nat.{◌-◌}
use Rattle.machine.specs.Parks.{none_above}
use Rattle.card_layout.specs.Words.{card_in}
use Rattle.card_parks.proofs.none_above.Given as goal

abbrev pub invariant-loop-i : goal.invariant-loop-i
invariant-loop-i l = none_above l.i (card_in l.card).parks ≡ true
