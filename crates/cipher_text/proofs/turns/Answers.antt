-- `cipher_text::turns` meets its contract: each turn goes on where the one before it ended, and what is left goes a unit to a turn.
-- Assumes nothing.
use Rattle.cipher_text.proofs.Places.{from-start, turn-whole, turn-pos, turn-more, turns-done}
use Rattle.cipher_text.proofs.turns.Goals as goal

pub loop-i-init : goal.loop-i-init
loop-i-init g c = let l = g.met.G.Generator in from-start g.G.Generator.generator l.unit_pos l.unit_is g.G.Generator.TURN

pub loop-i-preserved : goal.loop-i-preserved
loop-i-preserved g c =
    let l = g.met.G.Generator in
    turn-more g.G.Generator.generator l.unit_pos l.unit_is (turn-whole g.G.Generator.UNIT l.turn_is) (turn-pos g.G.Generator.UNIT l.unit_pos l.turn_is) c.TURN.ensures c.TURN-in-loop-i.ensures c.requires c.loop-i-test.true
    c.loop-i.invariant c.turn-cur.ensures

pub returns : goal.returns
returns g c =
    let l = g.met.G.Generator in
    turns-done g.G.Generator.generator l.unit_pos l.unit_is c.TURN.ensures c.TURN-2.ensures c.requires c.loop-i.auto.i-end c.loop-i-test.false c.loop-i.invariant c.ones.ensures
