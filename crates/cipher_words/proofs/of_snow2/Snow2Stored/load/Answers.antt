-- `cipher_words::of_snow2::Snow2::load` meets its contract: the register and the two words behind it are those of the state that the words hold.
-- Assumes nothing.
use lib.ListN.{get_or}
use Rattle.ciphers.specs.States.{snow2_state}
use Rattle.cipher_words.proofs.of_snow2.Snow2Stored.load.Goals as goal

pub returns : goal.returns
unfolding snow2_state
returns c = λ j. record { s = c.front.ensures j; r1 = get_or c.args.w.now 16 0; r2 = get_or c.args.w.now 17 0 }
