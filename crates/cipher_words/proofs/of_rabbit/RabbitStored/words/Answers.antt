-- `cipher_words::of_rabbit::Rabbit::words` meets its contract: each part goes behind those before it, and zeros are left.
-- Assumes nothing.
use Prim.Native.Nat.{◌*◌, ◌^◌}
use Rattle.ciphers.specs.States.{rabbit_words}
use Rattle.cipher_words.proofs.Cells.{counted-words}
use Rattle.cipher_words.proofs.of_rabbit.RabbitStored.words.Goals as goal

pub returns : goal.returns
unfolding rabbit_words
returns c = counted-words c.args.self.x c.args.self.c (c.args.self.b * 2 ^ 24) c.requires.eight-x c.requires.eight-c c.put.ensures c.put-2.ensures
