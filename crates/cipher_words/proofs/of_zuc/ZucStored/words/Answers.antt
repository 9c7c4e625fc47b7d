-- `cipher_words::of_zuc::Zuc::words` meets its contract: each part goes behind those before it, and zeros are left.
-- Assumes nothing.
use Rattle.ciphers.specs.States.{zuc_words}
use Rattle.cipher_words.proofs.Cells.{register-words}
use Rattle.cipher_words.proofs.of_zuc.ZucStored.words.Goals as goal

pub returns : goal.returns
unfolding zuc_words
returns c = register-words c.args.self.a c.args.self.r1 c.args.self.r2 c.requires.sixteen c.put.ensures c.put-2.ensures
