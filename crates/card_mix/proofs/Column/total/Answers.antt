-- `card_mix::Column::total` meets its contract: the samples of the first k members are added.
-- Assumes nothing.
use mathlib.Core.Path.{◌≡◌, ap, ◌∙◌}
use Prim.Native.Nat.{ℕ, ◌*◌, ◌≤◌}
use native.Mathlib.Omega.{arith}
use Rattle.card_mix.specs.Columns.{total_at}
use Rattle.card_mix.proofs.Columns.{total-low}
use Rattle.card_mix.proofs.Column.total.Goals as goal

pub overflow_add-sum : goal.overflow_add-sum
overflow_add-sum c =
    let z = (let it : c.loop-k.sum ≤ 65535 * c.loop-k.k = let z = total-low c.loop-k.k c.args.self.size c.args.self.at c.args.s.now in omega (arith, z, c.loop-k.invariant) in it) in
    omega (arith, z, c.args.self.few.1, c.loop-k-test.true, c.sample.type_inv)

pub returns : goal.returns
returns c =
    let e : c.loop-k.k ≡ c.args.self.members = omega arith in
    let z = (let it : c.loop-k.sum ≤ 65535 * c.loop-k.k = let z = total-low c.loop-k.k c.args.self.size c.args.self.at c.args.s.now in omega (arith, z, c.loop-k.invariant) in it) in
    (c.loop-k.invariant ∙ ap (λ (k : ℕ). total_at k c.args.self.size c.args.self.at c.args.s.now) e, omega (arith, z, e, c.args.self.few.1))
