-- `mugi::units::Mugi::put_unit` meets its contract: the bytes that the writer writes are those of the unit.
-- Assumes nothing.
use mathlib.Core.Path.{ap}
use Rattle.blocks.specs.Blocks.{spell}
use Rattle.mugi.specs.Cipher.{unit}
use Rattle.keystream.proofs.Parts.{put-of}
use Rattle.mugi.proofs.units.MugiGenerator.put_unit.Goals as goal

pub returns-clause-put : goal.returns-clause-put
unfolding unit spell
returns-clause-put c = put-of 0 8 c.args.text.now c.args.out.now _ (ap spell c.output.ensures) c.put_block.ensures
