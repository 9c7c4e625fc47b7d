-- `cipher_text::turn` meets its contract: a turn is eight units or two.
-- Assumes nothing.
use mathlib.Core.Path.{sym, subst}
use Prim.Native.Nat.{ℕ}
use Rattle.keystream.specs.Stream.{PartCrypted}
use Rattle.cipher_text.proofs.Places.{turn-eight, turn-two}
use Rattle.cipher_text.proofs.turn.Goals as goal

pub returns-then-TURN-UNIT-eq8 : goal.returns-then-TURN-UNIT-eq8
returns-then-TURN-UNIT-eq8 g c =
    let l = g.met.G.Generator in
    subst (λ (n : ℕ). PartCrypted g.G.Generator.generator 0 c.args.st n c.args.text.now c.args.out.now c.eight.result c.eight.new.out)
    (sym (turn-eight g.G.Generator.UNIT l.unit_pos c.TURN.ensures c.UNIT.ensures l.turn_is c.if-TURN-UNIT-eq8.true)) c.eight.ensures

pub returns-else-TURN-UNIT-eq8 : goal.returns-else-TURN-UNIT-eq8
returns-else-TURN-UNIT-eq8 g c =
    let l = g.met.G.Generator in
    subst (λ (n : ℕ). PartCrypted g.G.Generator.generator 0 c.args.st n c.args.text.now c.args.out.now c.two.result c.two.new.out)
    (sym (turn-two g.G.Generator.UNIT l.unit_pos c.TURN.ensures c.UNIT.ensures l.turn_is c.if-TURN-UNIT-eq8.false)) c.two.ensures
