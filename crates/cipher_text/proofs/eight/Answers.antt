-- `cipher_text::eight` meets its contract: the second four go on where the first ended.
-- Assumes nothing.
use mathlib.Core.Path.{refl, ap}
use Prim.Native.Nat.{ℕ, ◌*◌}
use native.Mathlib.Omega.{arith}
use Rattle.cipher_text.proofs.Places.{doubled}
use Rattle.cipher_text.proofs.eight.Goals as goal

pub returns : goal.returns
returns g c =
    let l = g.met.G.Generator in
    doubled g.G.Generator.generator l.unit_pos l.unit_is 4 refl (omega arith) (ap (λ (x : ℕ). 4 * x) c.UNIT-at.ensures) c.requires.0 c.requires.1 c.four-next.ensures c.four.ensures
