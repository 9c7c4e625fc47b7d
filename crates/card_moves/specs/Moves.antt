-- How far a crypt takes a line, by numbers alone: its position n, the position d of a change that waits, 0 for none, and the bytes of the crypt (document 02, (v)).
-- Assumes nothing.
use Rattle.std.specs.Prelude.{Bool, ℕ, ◌+◌, ◌-◌, ltb, leb}
use Rattle.words.specs.Tests.{both, pick}

-- whether the change comes due within the next k bytes: it waits above n, and not above n + k
unfoldable pub comes_due : (n d k : ℕ) → Bool
comes_due n d k = both (ltb n d) (leb d (n + k))

-- the position k bytes on, which past the change counts from it
unfoldable pub position_on : (n d k : ℕ) → ℕ
position_on n d k = pick (comes_due n d k) (n + k - d) (n + k)
