-- What every state of Rabbit that Init and Next make is: eight words, eight words, and a carry that is 0 or 1.
-- Assumes nothing.
use Rattle.std.specs.Prelude.{◌≡◌, ◌≤◌, length}
use Rattle.words.specs.Lists.{All, Word}
use Rattle.rabbit.specs.declared.Rabbit.{Rabbit}

pub record InRange (s : Rabbit) : Type 0 where
  pub eight-x : length s.x ≡ 8
  pub eight-c : length s.c ≡ 8
  pub xs : All Word s.x
  pub cs : All Word s.c
  pub carry : s.b ≤ 1
