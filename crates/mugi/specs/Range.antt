-- What every state of MUGI that Init and Next make is: three blocks, and sixteen more.
-- Assumes nothing.
use Rattle.std.specs.Prelude.{◌≡◌, ℕ, ◌<◌, ◌^◌, length}
use Rattle.words.specs.Lists.{All}
use Rattle.mugi.specs.declared.Mugi.{Mugi}

abbrev pub Block : ℕ → Type 0
Block x = x < 2 ^ 64

pub record InRange (s : Mugi) : Type 0 where
  pub three : length s.a ≡ 3
  pub sixteen : length s.b ≡ 16
  pub cells-a : All Block s.a
  pub cells-b : All Block s.b
