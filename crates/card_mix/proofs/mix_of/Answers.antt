-- `card_mix::mix_of` meets its contract: the first j samples are shared out.
-- Assumes nothing.
use mathlib.Core.Path.{◌≡◌, ap, ◌∙◌}
use Prim.Native.Nat.{ℕ, ◌*◌}
use native.Mathlib.Omega.{arith}
use Rattle.card_mix.specs.Columns.{columns_of}
use Rattle.card_mix.proofs.Mixes.{columns-mix}
use Rattle.card_mix.proofs.mix_of.Goals as goal

pub returns : goal.returns
returns c =
    let e : c.loop-j.j ≡ c.args.samples = omega arith in
    c.loop-j.invariant ∙ ap (λ (j : ℕ). columns_of j c.args.members (2 * c.args.samples) c.args.s.now) e ∙ columns-mix c.args.members c.args.samples c.args.s.now c.requires.1.1
