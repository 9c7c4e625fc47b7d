-- By computation.
-- Assumes nothing.
use mathlib.Core.Path.{◌≡◌, refl}
use mathlib.Core.Bool.{true}
use Rattle.gf64.specs.Gf64.{mul}
use Rattle.gf64.specs.Cases.{all, cases}

pub cases-hold : all cases ≡ true
unfolding cases mul
cases-hold = refl
