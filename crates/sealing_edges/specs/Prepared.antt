-- Prepared keystreams, such as no key is known to give: the multiplier behind two blocks of zeros, at the last block that is tried, and behind all of them.
-- Assumes nothing.
use Rattle.std.specs.Prelude.{List, [], ◌∷◌, ℕ, ◌*◌, eqb, ltb}
use Rattle.words.specs.Tests.{pick}

-- 0, 0, and then blocks of eight times the byte i
abbrev pub third : ℕ → ℕ
third i = pick (ltb i 2) 0 (i * 0x0101010101010101)

-- 1 at block t alone
abbrev pub one_at : ℕ → ℕ → ℕ
one_at t i = pick (eqb i t) 1 0

-- the message 41 .. 48 with the redundancy 00 .. 07, sealed over the first, against an independent implementation, and over one that is 1 at the
-- multiplier alone: then W_i is P_i, and C_i is P_i + P_(i-1)
abbrev pub over_third : List ℕ
over_third =
    0x1d ∷ 0x78 ∷ 0x41 ∷ 0x4c ∷ 0xcd ∷ 0x78 ∷ 0x91 ∷ 0x4c ∷ 0x42 ∷ 0x29 ∷ 0x40 ∷ 0x2f ∷ 0x46 ∷ 0x2d ∷ 0x44 ∷ 0x23 ∷ 0x02 ∷ 0xe6 ∷ 0x36 ∷ 0xba ∷ 0x02 ∷ 0x36 ∷ 0x36 ∷ 0x6a ∷ []

abbrev pub over_one : List ℕ
over_one =
    0x41 ∷ 0x42 ∷ 0x43 ∷ 0x44 ∷ 0x45 ∷ 0x46 ∷ 0x47 ∷ 0x48 ∷ 0x41 ∷ 0x42 ∷ 0x43 ∷ 0x44 ∷ 0x45 ∷ 0x46 ∷ 0x47 ∷ 0x48 ∷ 0x00 ∷ 0x01 ∷ 0x02 ∷ 0x03 ∷ 0x04 ∷ 0x05
    ∷ 0x06 ∷ 0x07 ∷ []
