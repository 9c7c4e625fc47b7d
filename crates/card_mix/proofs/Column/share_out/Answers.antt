-- `card_mix::Column::share_out` meets its contract: the places of the first k members are written, and the next member reads its own sample.
-- Assumes nothing.
use mathlib.Core.Path.{◌≡◌, ap, ◌∙◌}
use mathlib.Core.List.{List}
use Prim.Native.Nat.{ℕ, ◌+◌, ◌-◌, ◌*◌, ◌≤◌}
use native.Mathlib.Omega.{arith}
use Rattle.card_mix.specs.Columns.{raised_at}
use Rattle.card_mix.proofs.Columns.{own-kept, own-within, total-low}
use Rattle.card_mix.proofs.Column.share_out.Goals as goal

pub overflow_sub-sum : goal.overflow_sub-sum
overflow_sub-sum c = let z = (let it : raised_at c.loop-k.s (c.loop-k.k * c.args.self.size + c.args.self.at) ≤ c.args.sum = let e : raised_at c.loop-k.s (c.loop-k.k * c.args.self.size + c.args.self.at) ≡ raised_at c.args.s.now (c.loop-k.k * c.args.self.size + c.args.self.at) = ap (λ (l : List ℕ). raised_at l (c.loop-k.k * c.args.self.size + c.args.self.at)) c.loop-k.invariant.1 ∙ own-kept c.loop-k.k c.args.self.size c.args.self.at c.args.sum (c.args.self.members - 1) c.args.s.now c.loop-k.k c.args.self.within (omega arith) in let z = own-within c.args.self.members c.args.self.size c.args.self.at c.args.s.now c.loop-k.k c.loop-k-test.true in omega (arith, e, z, c.requires.total) in it) in omega (arith, z, c.sample-own.ensures)

pub clamp-x-requires : goal.clamp-x-requires
clamp-x-requires c =
    let z = total-low c.args.self.members c.args.self.size c.args.self.at c.args.s.now in
    (omega (arith, z, c.requires.total, c.args.self.few.1), omega (arith, c.args.self.few.1))
