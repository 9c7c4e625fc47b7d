-- `sealing_steps::ends` meets its contract: three blocks one after the other.
-- Assumes nothing.
use mathlib.Core.Path.{◌≡◌, ap₂}
use Prim.Native.Nat.{ℕ, ◌+◌, ◌*◌}
use native.Mathlib.Omega.{arith}
use Rattle.words.specs.Word.{◌⊕◌}
use Rattle.sealing_steps.proofs.Wholes.{at_same}
use Rattle.sealing_steps.proofs.ends.Goals as goal

pub returns : goal.returns
returns c =
    λ k s i h.
    let r1 = c.next_block-z0.ensures.read k s i h in
    let r2 = c.next_block-z1.ensures.read k s (i + 1) r1.stands in
    let e : 8 * (i + 1 + 1) ≡ 8 * (i + 2) = omega arith in
    let r3 = c.next_block-z2.ensures.read k s (i + 2) (at_same e r2.stands) in
    record { padding-is = ap₂ (λ (x y : ℕ). x ⊕ y) r3.block r1.block; redundancy-is = ap₂ (λ (x y : ℕ). x ⊕ y) c.block_at-r.ensures r2.block }
