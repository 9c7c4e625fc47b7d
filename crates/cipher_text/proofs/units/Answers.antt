-- `cipher_text::units` meets its contract: each unit goes on where the one before it ended, and a step follows it.
-- Assumes nothing.
use Rattle.cipher_text.proofs.Places.{from-start, unit-more, units-done}
use Rattle.cipher_text.proofs.units.Goals as goal

pub loop-i-init : goal.loop-i-init
loop-i-init g c = let l = g.met.G.Generator in from-start g.G.Generator.generator l.unit_pos l.unit_is g.G.Generator.UNIT

pub loop-i-preserved : goal.loop-i-preserved
loop-i-preserved g c =
    let l = g.met.G.Generator in
    unit-more g.G.Generator.generator l.unit_pos l.unit_is c.UNIT.ensures c.UNIT-in-loop-i.ensures c.requires.count_in_bounds.0 c.requires.count_in_bounds.1 c.loop-i-test.true
    c.loop-i.invariant c.put_unit-cur.ensures.put c.put_unit-cur.ensures.next

pub returns : goal.returns
returns g c =
    let l = g.met.G.Generator in
    units-done g.G.Generator.generator l.unit_pos l.unit_is c.UNIT.ensures c.requires.whole c.loop-i.auto.i-end c.loop-i-test.false c.loop-i.invariant
