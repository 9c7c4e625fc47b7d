-- What every state of KCipher-2 that Init and Next make is: five words, eleven words, and four more.
-- Assumes nothing.
use Rattle.std.specs.Prelude.{◌≡◌, length}
use Rattle.words.specs.Lists.{All, Word}
use Rattle.kcipher2.specs.declared.Kcipher2.{Kcipher2}

pub record InRange (s : Kcipher2) : Type 0 where
  pub five : length s.a ≡ 5
  pub eleven : length s.b ≡ 11
  pub cells-a : All Word s.a
  pub cells-b : All Word s.b
  pub r1-word : Word s.r1
  pub l1-word : Word s.l1
  pub r2-word : Word s.r2
  pub l2-word : Word s.l2
