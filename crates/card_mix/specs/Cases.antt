-- Conferences worked out by hand: what each member says, and what it is sent. All that the others say is added up first, and the whole is clamped once.
-- Assumes nothing.
use Rattle.std.specs.Prelude.{List, [], ◌∷◌, ℕ, ◌-◌, ◌/◌, ◌%◌, ◌^◌}

-- a sample below zero, in its 16 bits
abbrev pub minus : ℕ → ℕ
minus k = 2 ^ 16 - k

-- samples as bytes, big-endian
abbrev pub bytes_of : List ℕ → List ℕ
bytes_of [] = []
bytes_of (x ∷ xs) = x / 256 ∷ x % 256 ∷ bytes_of xs

pub record Case : Type 0 where
  pub said : List ℕ
  pub sent : List ℕ

infix 60 ◌mixes-to◌
abbrev pub ◌mixes-to◌ : List ℕ → List ℕ → Case
x mixes-to y = record { said = x; sent = y }

-- one sample of each member, and what each is sent, by rising member
unfoldable pub table : List Case
table =
    -- of two members each is sent what the other says
    ((1 ∷ 2 ∷ []) mixes-to (2 ∷ 1 ∷ []))
    ∷ ((minus 32768 ∷ 32767 ∷ []) mixes-to (32767 ∷ minus 32768 ∷ []))
    -- of three, the sum of two: about zero
    ∷ ((minus 1 ∷ 1 ∷ 0 ∷ []) mixes-to (1 ∷ minus 1 ∷ 0 ∷ []))
    ∷ ((0 ∷ minus 1 ∷ minus 1 ∷ []) mixes-to (minus 2 ∷ minus 1 ∷ minus 1 ∷ []))
    -- the greatest sum, and one past it, which is clamped
    ∷ ((0 ∷ 32766 ∷ 1 ∷ []) mixes-to (32767 ∷ 1 ∷ 32766 ∷ []))
    ∷ ((0 ∷ 32767 ∷ 1 ∷ []) mixes-to (32767 ∷ 1 ∷ 32767 ∷ []))
    -- the least sum, and one past it
    ∷ ((0 ∷ minus 32767 ∷ minus 1 ∷ []) mixes-to (minus 32768 ∷ minus 1 ∷ minus 32767 ∷ []))
    ∷ ((0 ∷ minus 32768 ∷ minus 1 ∷ []) mixes-to (minus 32768 ∷ minus 1 ∷ minus 32768 ∷ []))
    -- both ends at once: the third is sent 32,768, clamped
    ∷ ((32767 ∷ 1 ∷ minus 32768 ∷ []) mixes-to (minus 32767 ∷ minus 1 ∷ 32767 ∷ []))
    -- of four, the sum of three: the first is sent 20,000, where a clamp after the first two of them would leave 12,767; and the opposite
    ∷ ((0 ∷ 20000 ∷ 20000 ∷ minus 20000 ∷ []) mixes-to (20000 ∷ 0 ∷ 0 ∷ 32767 ∷ []))
    ∷ ((0 ∷ minus 20000 ∷ minus 20000 ∷ 20000 ∷ []) mixes-to (minus 20000 ∷ 0 ∷ 0 ∷ minus 32768 ∷ []))
    ∷ ((32767 ∷ 32767 ∷ minus 32768 ∷ 0 ∷ []) mixes-to (minus 1 ∷ minus 1 ∷ 32767 ∷ 32766 ∷ []))
    -- all past the greatest, and all past the least
    ∷ ((30000 ∷ 30000 ∷ 30000 ∷ 0 ∷ []) mixes-to (32767 ∷ 32767 ∷ 32767 ∷ 32767 ∷ []))
    ∷ ((minus 32768 ∷ minus 32768 ∷ minus 32768 ∷ minus 1 ∷ []) mixes-to (minus 32768 ∷ minus 32768 ∷ minus 32768 ∷ minus 32768 ∷ []))
    ∷ []

-- two samples of each of four members, one member behind the other: 1 and 100, 2 and 200, -3 and 30,000, 4 and 30,000
unfoldable pub two_each : Case
two_each = (1 ∷ 100 ∷ 2 ∷ 200 ∷ minus 3 ∷ 30000 ∷ 4 ∷ 30000 ∷ []) mixes-to (3 ∷ 32767 ∷ 2 ∷ 32767 ∷ 7 ∷ 30300 ∷ 0 ∷ 30300 ∷ [])
