-- `cipher_text::four` meets its contract: the second two go on where the first ended.
-- Assumes nothing.
use mathlib.Core.Path.{refl, ap}
use Prim.Native.Nat.{ℕ, ◌*◌}
use native.Mathlib.Omega.{arith}
use Rattle.cipher_text.proofs.Places.{doubled}
use Rattle.cipher_text.proofs.four.Goals as goal

pub returns : goal.returns
returns g c =
    let l = g.met.G.Generator in
    doubled g.G.Generator.generator l.unit_pos l.unit_is 2 refl (omega arith) (ap (λ (x : ℕ). 2 * x) c.UNIT-at.ensures) c.requires.0 c.requires.1 c.two-next.ensures c.two.ensures
