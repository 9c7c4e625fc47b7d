-- `card_mix::Column::total` meets its contract: the samples of the first k members are added.
-- Assumes nothing.
use mathlib.Core.Path.{◌≡◌}
use Rattle.card_mix.specs.Columns.{total_at}
use Rattle.card_mix.proofs.Column.total.Given as goal

abbrev pub invariant-loop-k : goal.invariant-loop-k
invariant-loop-k l = l.sum ≡ total_at l.k l.self.size l.self.at l.s
