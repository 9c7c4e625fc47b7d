-- What every state of ZUC that Init and Next make is: sixteen cells from 1 to 2^31 - 1, and two words.
-- Assumes nothing.
use Rattle.std.specs.Prelude.{◌≡◌, ℕ, ◌-◌, ◌^◌, ◌≤◌, length}
use Rattle.words.specs.Lists.{All, Word}
use Rattle.zuc.specs.declared.Zuc.{Zuc}

abbrev pub Cell : ℕ → Type 0
Cell x = (1 ≤ x) × (x ≤ 2 ^ 31 - 1)

pub record InRange (s : Zuc) : Type 0 where
  pub sixteen : length s.a ≡ 16
  pub cells : All Cell s.a
  pub r1-word : Word s.r1
  pub r2-word : Word s.r2
