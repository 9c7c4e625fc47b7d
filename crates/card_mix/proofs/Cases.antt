-- The table of conferences: each row is computed.
-- Assumes nothing.
use mathlib.Core.Path.{◌≡◌, refl}
use mathlib.Core.List.{map}
use lib.ListN.{length}
use Rattle.card_mix.specs.Sums.{mix_for}
use Rattle.card_mix.specs.Parts.{mixes_of}
use Rattle.card_mix.specs.Cases.{bytes_of, table, two_each}

pub sums-as-stated : map (λ c. mixes_of (length c.said) 2 (bytes_of c.said)) table ≡ map (λ c. bytes_of c.sent) table
unfolding table mixes_of mix_for
sums-as-stated = refl

pub samples-as-stated : mixes_of 4 4 (bytes_of two_each.said) ≡ bytes_of two_each.sent
unfolding two_each mixes_of mix_for
samples-as-stated = refl
