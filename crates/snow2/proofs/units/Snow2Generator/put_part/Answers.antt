-- `snow2::units::Snow2::put_part` meets its contract: the bytes that the writer writes are those of the unit.
-- Assumes nothing.
use mathlib.Core.Path.{ap, ◌∙◌}
use Rattle.words.specs.Strings.{bytes_of}
use Rattle.snow2.specs.Cipher.{unit}
use Rattle.keystream.proofs.Parts.{put-of}
use Rattle.snow2.proofs.units.Snow2Generator.put_part.Goals as goal

pub returns : goal.returns
unfolding unit bytes_of
returns c = put-of c.args.from c.args.count c.args.text.now c.args.out.now _ (c.to_be_bytes-ks.ensures ∙ ap bytes_of c.output.ensures) c.put_part.ensures
