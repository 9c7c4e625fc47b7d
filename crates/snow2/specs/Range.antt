-- What every state of SNOW 2.0 that Init and Next make is: sixteen words, and two more.
-- Assumes nothing.
use Rattle.std.specs.Prelude.{◌≡◌, length}
use Rattle.words.specs.Lists.{All, Word}
use Rattle.snow2.specs.declared.Snow2.{Snow2}

pub record InRange (s : Snow2) : Type 0 where
  pub sixteen : length s.s ≡ 16
  pub cells : All Word s.s
  pub r1-word : Word s.r1
  pub r2-word : Word s.r2
