-- `rabbit::g` meets its contract: the square of a word has 64 bits, and its halves have 32 each.
-- Assumes nothing.
use Rattle.std.proofs.Common.{rules}
use Rattle.rabbit.specs.Cipher.{g}
use Rattle.rabbit.proofs.g.Goals as goal

pub returns : goal.returns
unfolding g
returns c = search rules
