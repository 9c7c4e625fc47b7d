-- `rabbit::start::iv_words` meets its contract: the parts are those of 7.3.2, step 4.
-- Assumes nothing.
use Rattle.std.proofs.Common.{refl}
use Rattle.words.proofs.Registers.{cons}
use Rattle.rabbit.specs.Cipher.{iv_words}
use Rattle.rabbit.proofs.start.iv_words.Goals as goal

pub returns : goal.returns
unfolding iv_words
returns c = cons c.join.ensures (cons c.join-2.ensures (cons c.join-3.ensures (cons c.join-4.ensures refl)))
