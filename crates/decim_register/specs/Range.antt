-- What a register of Decim v2 is: six words.
-- Assumes nothing.
use Rattle.std.specs.Prelude.{◌≡◌, List, ℕ, length}
use Rattle.words.specs.Lists.{All, Word}

pub record RegisterIn (a : List ℕ) : Type 0 where
  pub six : length a ≡ 6
  pub cells : All Word a
