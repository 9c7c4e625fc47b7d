-- The edges of the checks, each a call with what else is wrong with it, and a message sealed with Rabbit and opened.
-- Assumes nothing.
use Rattle.std.specs.Prelude.{List, [], ◌∷◌, ◌++◌, ℕ, ◌+◌, replicate}
use Rattle.words.specs.Lists.{tab}
use Rattle.sealing_rules.specs.Sealing.{seal_check, open_check}

pub record Row : Type 0 where
  pub computed : ℕ
  pub stated : ℕ

-- keys: a byte that is not 0, none, and one beyond sixteen bytes
abbrev pub plain : List ℕ
plain = 1 ∷ replicate 31 0

abbrev pub blank : List ℕ
blank = replicate 32 0

abbrev pub long : List ℕ
long = replicate 31 0 ++ (1 ∷ [])

-- an IV of zeros, and one with a byte beyond eight
abbrev pub zeros : List ℕ
zeros = replicate 16 0

abbrev pub late : List ℕ
late = replicate 15 0 ++ (1 ∷ [])

abbrev pub eight_zeros : List ℕ
eight_zeros = replicate 8 0

-- a sealing of n bytes, an opening of n
abbrev pub sealing : (c : ℕ) (key iv : List ℕ) (n room : ℕ) → ℕ
sealing c key iv n room = seal_check c key iv (replicate n 0) room

abbrev pub opening : (c : ℕ) (key iv : List ℕ) (n room : ℕ) → ℕ
opening c key iv n room = open_check c key iv (replicate n 0) room

unfoldable pub table : List Row
table =
    -- 23 before all others
    record { computed = sealing 9 long late 7 0; stated = 23 }
    ∷ record { computed = sealing 9 long late 16392 0; stated = 23 }
    ∷ record { computed = sealing 9 long late 16384 0; stated = 4 }
    ∷ record { computed = opening 9 long late 0 0; stated = 23 }
    ∷ record { computed = opening 9 long late 8 0; stated = 23 }
    ∷ record { computed = opening 9 long late 17 0; stated = 23 }
    ∷ record { computed = opening 9 long late 16408 0; stated = 23 }
    ∷ record { computed = opening 9 long late 16400 0; stated = 4 }
    ∷ record { computed = opening 9 long late 16 0; stated = 4 }
    -- 4, then 7, then 16, then 12
    ∷ record { computed = sealing 0 long late 0 0; stated = 4 }
    ∷ record { computed = sealing 7 long late 0 0; stated = 4 }
    ∷ record { computed = sealing 1 long zeros 0 0; stated = 7 }
    ∷ record { computed = sealing 2 blank late 0 0; stated = 7 }
    ∷ record { computed = sealing 1 blank late 0 0; stated = 16 }
    ∷ record { computed = sealing 4 blank zeros 0 0; stated = 16 }
    ∷ record { computed = sealing 4 long zeros 0 15; stated = 12 }
    ∷ record { computed = sealing 4 long zeros 0 16; stated = 0 }
    ∷ record { computed = sealing 6 plain late 16384 16399; stated = 12 }
    ∷ record { computed = sealing 6 plain late 16384 16400; stated = 0 }
    ∷ record { computed = opening 5 plain zeros 24 7; stated = 12 }
    ∷ record { computed = opening 5 plain zeros 24 8; stated = 0 }
    ∷ record { computed = opening 3 plain zeros 16 0; stated = 0 }
    ∷ []

-- Rabbit with the key 01 .. 10, the IV 00 .. 07, the redundancy 00 .. 07 and the message 41 .. 48, against an independent implementation
abbrev pub key : List ℕ
key = tab 16 (λ j. 1 + j) ++ replicate 16 0

abbrev pub iv : List ℕ
iv = tab 8 (λ j. j) ++ eight_zeros

abbrev pub redundancy : List ℕ
redundancy = tab 8 (λ j. j)

abbrev pub message : List ℕ
message = tab 8 (λ j. 0x41 + j)

abbrev pub sealed : List ℕ
sealed =
    0x1f ∷ 0x3a ∷ 0xf3 ∷ 0xfd ∷ 0x59 ∷ 0xd6 ∷ 0x0b ∷ 0x84 ∷ 0x8e ∷ 0xcd ∷ 0x6c ∷ 0xfa ∷ 0x44 ∷ 0x2c ∷ 0x25 ∷ 0xaa ∷ 0xca ∷ 0xfa ∷ 0xf7 ∷ 0xb4 ∷ 0x23 ∷ 0x79
    ∷ 0x93 ∷ 0xe0 ∷ []
