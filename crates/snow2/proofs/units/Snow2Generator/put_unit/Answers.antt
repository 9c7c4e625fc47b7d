-- `snow2::units::Snow2::put_unit` meets its contract: the bytes that the writer writes are those of the unit.
-- Assumes nothing.
use mathlib.Core.Path.{ap}
use Rattle.words.specs.Strings.{bytes_of}
use Rattle.snow2.specs.Cipher.{unit}
use Rattle.keystream.proofs.Parts.{put-of}
use Rattle.snow2.proofs.units.Snow2Generator.put_unit.Goals as goal

pub returns-clause-put : goal.returns-clause-put
unfolding unit
returns-clause-put c = put-of 0 4 c.args.text.now c.args.out.now _ (ap bytes_of c.output.ensures) c.put_word.ensures
