-- What a glance at an open line's words tells: whether a number is a cipher's that admits the state, and nothing is kept for a change.
-- Assumes nothing.
use Rattle.std.specs.Prelude.{Bool, List, ℕ, take, drop}
use Rattle.words.specs.Tests.{both}
use Rattle.card_sizes.specs.Sizes.{due_at}
use Rattle.ciphers.specs.Table.{cipher_at, is_cipher, all_zero}
use Rattle.card_line.specs.Words.{line_in}

-- whether c is the number of a cipher that admits the state, and all words that are kept for a change are zero
unfoldable pub glanced : ℕ → List ℕ → Bool
glanced c ws = both (is_cipher c) (both ((cipher_at c).admits (line_in ws).words) (all_zero (take 40 (drop due_at ws))))
