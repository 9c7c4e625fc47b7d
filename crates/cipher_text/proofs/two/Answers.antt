-- `cipher_text::two` meets its contract: two units are a turn, whose second goes on where the first ended.
-- Assumes nothing.
use Rattle.cipher_text.proofs.Places.{paired}
use Rattle.cipher_text.proofs.two.Goals as goal

pub returns : goal.returns
returns g c =
    let l = g.met.G.Generator in
    paired g.G.Generator.generator l.unit_pos l.unit_is c.UNIT-at.ensures c.requires.0 c.requires.1 c.put_unit-next.ensures.put c.put_unit-next.ensures.next c.put_unit.ensures.put c.put_unit.ensures.next
