-- `card_mix::Column::share_out` meets its contract: the places of the first k members are written, and the next member reads its own sample.
-- Assumes nothing.
use mathlib.Core.Path.{◌≡◌}
use Prim.Native.Nat.{◌-◌}
use lib.ListN.{length}
use Rattle.card_mix.specs.Columns.{shared_out}
use Rattle.card_mix.proofs.Column.share_out.Given as goal

abbrev pub invariant-loop-k : goal.invariant-loop-k
invariant-loop-k l = (length l.s ≡ length l.initial.s) × (l.s ≡ shared_out l.k l.self.size l.self.at l.sum (l.self.members - 1) l.initial.s)
