-- A state that a line can reach: all its words, of which the cipher admits what it restricts.
-- Assumes nothing.
use Rattle.std.specs.Prelude.{◌≡◌, true, List, ℕ, length}
use Rattle.words.specs.Lists.{All, Word}
use Rattle.ciphers.specs.States.{state_words}
use Rattle.ciphers.specs.Table.{CipherRow}

pub record Fit (c : CipherRow) (w : List ℕ) : Type 0 where
  pub full : length w ≡ state_words
  pub words : All Word w
  pub admitted : c.admits w ≡ true
