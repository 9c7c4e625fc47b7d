-- `cipher_text::crypt` meets its contract: the rest of the begun unit is a part, and what follows starts with a unit.
-- Assumes nothing.
use Prim.Native.Nat.{ℕ, ◌-◌, ◌%◌, ◌<◌, min}
use mathlib.Core.Path.{refl, ap₂, sym, ◌∙◌}
use native.Mathlib.Omega.{arith}
use lib.ListN.{length}
use Rattle.keystream.proofs.Parts.{begun, crypted, tail-length}
use Rattle.cipher_text.proofs.crypt.Goals as goal

pub returns : goal.returns
returns g c =
    let l = g.met.G.Generator in
    let k = g.G.Generator.generator in
    let pos : 0 < k.unit = omega (arith, l.unit_is, l.unit_pos) in
    let head =
    c.min-head.ensures ∙ ap₂ (λ (u v : ℕ). min ((u - c.args.skip) % v) (length c.args.text.now)) (c.UNIT.ensures ∙ sym l.unit_is) (c.UNIT-2.ensures ∙ sym l.unit_is) in
    crypted k k.unit pos refl c.requires.1
    (begun k k.unit pos refl c.requires.1 (omega (arith, l.unit_is, c.requires.0)) head c.part-cur.ensures (tail-length c.min-head.result c.args.text.now) c.turns.ensures)
