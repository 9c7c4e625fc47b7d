-- The parks of a card (document 02, (iii) and (x)): for each line how many were made from it, and the number last parked from it or 0. All that the machine knows of them are the names here.
-- Assumes nothing.
use Rattle.std.specs.Prelude.{Bool, true, not, List, ℕ, zero, suc, ◌-◌, ◌^◌, eqb, leb, get_or, set, replicate}
use Rattle.card_sizes.specs.Sizes.{line_count}
use Rattle.words.specs.Tests.{both}

pub record Parks : Type 0 where
  pub counts : List ℕ
  pub held : List ℕ

abbrev pub fresh_parks : Parks
fresh_parks = record { counts = replicate line_count 0; held = replicate line_count 0 }

-- the parks that were made from line i, and the number that is held of it
abbrev pub count_for : Parks → ℕ → ℕ
count_for p i = get_or p.counts i 0

abbrev pub held_for : Parks → ℕ → ℕ
held_for p i = get_or p.held i 0

-- as many parks of a line as 32 bits count
abbrev pub last_park : ℕ
last_park = 2 ^ 32 - 1

unfoldable pub no_more : Parks → ℕ → Bool
no_more p i = leb last_park (count_for p i)

-- the number of a park that is made from line i now
unfoldable pub number_now : Parks → ℕ → ℕ
number_now p i = suc (count_for p i)

-- a park from line i
unfoldable pub parked : Parks → ℕ → Parks
parked p i = record { counts = set p.counts i (number_now p i); held = set p.held i (number_now p i) }

-- number k, not 0, is held of line i
unfoldable pub holds : Parks → ℕ → ℕ → Bool
holds p i k = both (not (eqb k 0)) (eqb (held_for p i) k)

-- and is taken up
unfoldable pub taken : Parks → ℕ → Parks
taken p i = record { counts = p.counts; held = set p.held i 0 }

-- 255: of none of the first k lines the held number is above the line's count
abbrev pub none_above : ℕ → Parks → Bool
none_above zero p = true
none_above (suc k) p = both (none_above k p) (leb (held_for p k) (count_for p k))

unfoldable pub parks_ok : Parks → Bool
parks_ok p = none_above line_count p
