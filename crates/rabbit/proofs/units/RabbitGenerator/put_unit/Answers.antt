-- `rabbit::units::Rabbit::put_unit` meets its contract: the bytes that the writer writes are those of the unit.
-- Assumes nothing.
use mathlib.Core.Path.{ap}
use mathlib.Core.List.{List, ◌++◌}
use Prim.Native.Nat.{ℕ}
use lib.ListN.{get_or}
use Rattle.words.specs.Strings.{bytes_up}
use Rattle.rabbit.specs.Cipher.{strm, unit}
use Rattle.keystream.proofs.Parts.{put-of}
use Rattle.rabbit.proofs.units.RabbitGenerator.put_unit.Goals as goal

pub returns-clause-put : goal.returns-clause-put
unfolding unit strm
returns-clause-put c = put-of 0 16 c.args.text.now c.args.out.now _ (ap (λ (z : List ℕ). bytes_up (get_or z 0 0) ++ bytes_up (get_or z 1 0) ++ bytes_up (get_or z 2 0) ++ bytes_up (get_or z 3 0)) c.output.ensures) c.put_words_up.ensures
