-- `rabbit::Rabbit::output` meets its contract: the parts are those of 7.3.4.
-- Assumes nothing.
use Rattle.std.proofs.Common.{refl}
use Rattle.words.proofs.Registers.{cons}
use Rattle.rabbit.specs.Cipher.{strm}
use Rattle.rabbit.proofs.Rabbit.output.Goals as goal

pub returns : goal.returns
unfolding strm
returns c = cons c.part.ensures (cons c.part-2.ensures (cons c.part-3.ensures (cons c.part-4.ensures refl)))
