-- `cipher_text::part` meets its contract: where no byte is used nothing is done, and else the bytes are those of one unit, which is used up or not.
-- Assumes nothing.
use mathlib.Core.Path.{refl, sym, subst, ◌∙◌}
use Prim.Native.Nat.{ℕ}
use native.Mathlib.Omega.{arith}
use Rattle.keystream.specs.Stream.{PartCrypted}
use Rattle.keystream.proofs.Parts.{did_none, part_end, part-within}
use Rattle.cipher_text.proofs.part.Goals as goal

pub returns-then-used-eq0 : goal.returns-then-used-eq0
returns-then-used-eq0 g c =
    let k = g.G.Generator.generator in
    let l = g.met.G.Generator in
    subst (λ (n : ℕ). PartCrypted k c.args.from c.args.st n c.args.text.now c.args.out.now c.args.st c.args.out.now) (sym c.if-used-eq0.true)
    (did_none k (omega (arith, l.unit_is, l.unit_pos)) (omega (arith, l.unit_is, c.requires.from_bound.0)))

pub overflow_add-from : goal.overflow_add-from
overflow_add-from g c = omega (arith, c.requires.from_bound.1, c.UNIT.ensures, c.UNIT.type_inv)

pub returns-then-UNIT-from : goal.returns-then-UNIT-from
returns-then-UNIT-from g c =
    let l = g.met.G.Generator in
    part_end g.G.Generator.generator (omega (arith, l.unit_is, l.unit_pos)) c.args.from c.args.used c.args.st c.args.text.now c.args.out.now _ _ refl (omega arith) c.put_part.ensures
    (sym c.if-UNIT-from.true ∙ c.UNIT.ensures ∙ sym l.unit_is) c.step.ensures

pub returns-else-UNIT-from : goal.returns-else-UNIT-from
returns-else-UNIT-from g c =
    let l = g.met.G.Generator in
    part-within g.G.Generator.generator (omega (arith, l.unit_is, l.unit_pos)) c.args.from c.args.used c.args.st c.args.text.now c.args.out.now _ _ refl (omega arith)
    c.put_part.ensures (omega (arith, l.unit_is, c.UNIT.ensures, c.if-UNIT-from.false, c.requires.from_bound.1))
