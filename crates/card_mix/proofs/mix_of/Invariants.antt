-- `card_mix::mix_of` meets its contract: the first j samples are shared out.
-- Assumes nothing.
use mathlib.Core.Path.{◌≡◌}
use Prim.Native.Nat.{◌*◌}
use Rattle.card_mix.specs.Columns.{columns_of}
use Rattle.card_mix.proofs.mix_of.Given as goal

abbrev pub invariant-loop-j : goal.invariant-loop-j
invariant-loop-j l = l.s ≡ columns_of l.j l.members (2 * l.samples) l.initial.s
