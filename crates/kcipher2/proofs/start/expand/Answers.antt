-- `kcipher2::start::expand` meets its contract: each word is the one four places back with the one before it.
-- Assumes nothing.
use Rattle.std.proofs.Common.{get_or, lit<, rules}
use Rattle.words.proofs.Rotations.{rotated}
use Rattle.kcipher2.specs.Cipher.{expanded}
use Rattle.kcipher2.proofs.start.expand.Goals as goal

pub returns : goal.returns
unfolding expanded
returns c = rw (c.sub_word.ensures, c.rotate_left.ensures, rotated 8 (get_or c.args.k 3 0) (lit< tt) (lit< tt) (search rules))
