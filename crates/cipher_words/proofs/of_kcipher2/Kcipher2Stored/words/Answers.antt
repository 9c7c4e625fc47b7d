-- `cipher_words::of_kcipher2::Kcipher2::words` meets its contract: each part goes behind those before it, and zeros are left.
-- Assumes nothing.
use Rattle.ciphers.specs.States.{kcipher2_words}
use Rattle.cipher_words.proofs.Cells.{register-and-four}
use Rattle.cipher_words.proofs.of_kcipher2.Kcipher2Stored.words.Goals as goal

pub returns : goal.returns
unfolding kcipher2_words
returns c =
    register-and-four c.args.self.a c.args.self.b c.args.self.r1 c.args.self.l1 c.args.self.r2 c.args.self.l2 c.requires.five c.requires.eleven c.put.ensures c.put-2.ensures c.put-3.ensures
