-- `cipher_text::ones` meets its contract: what is behind the whole units is part of one.
-- Assumes nothing.
use native.Mathlib.Omega.{arith}
use Rattle.cipher_text.proofs.Places.{whole-part, ones-done}
use Rattle.cipher_text.proofs.ones.Goals as goal

pub units-cur-requires-clause-whole : goal.units-cur-requires-clause-whole
units-cur-requires-clause-whole g c = whole-part _ c.UNIT.ensures

pub returns : goal.returns
returns g c =
    let l = g.met.G.Generator in
    ones-done g.G.Generator.generator l.unit_pos l.unit_is c.UNIT.ensures (omega arith) c.requires c.units-cur.ensures c.part.ensures
