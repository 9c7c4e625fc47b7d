-- `cipher_words::of_snow2::Snow2::words` meets its contract: each part goes behind those before it, and zeros are left.
-- Assumes nothing.
use Rattle.ciphers.specs.States.{snow2_words}
use Rattle.cipher_words.proofs.Cells.{register-words}
use Rattle.cipher_words.proofs.of_snow2.Snow2Stored.words.Goals as goal

pub returns : goal.returns
unfolding snow2_words
returns c = register-words c.args.self.s c.args.self.r1 c.args.self.r2 c.requires.sixteen c.put.ensures c.put-2.ensures
