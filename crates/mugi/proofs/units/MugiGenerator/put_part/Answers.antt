-- `mugi::units::Mugi::put_part` meets its contract: the bytes that the writer writes are those of the unit.
-- Assumes nothing.
use mathlib.Core.Path.{ap, ◌∙◌}
use Rattle.blocks.specs.Blocks.{spell}
use Rattle.mugi.specs.Cipher.{unit}
use Rattle.keystream.proofs.Parts.{put-of}
use Rattle.mugi.proofs.units.MugiGenerator.put_part.Goals as goal

pub returns : goal.returns
unfolding unit spell
returns c = put-of c.args.from c.args.count c.args.text.now c.args.out.now _ (c.bytes-ks.ensures ∙ ap spell c.output.ensures) c.put_part.ensures
