-- Products, against an independent implementation.
-- Assumes nothing.
use Rattle.std.specs.Prelude.{Bool, true, List, [], ◌∷◌, eqb}
use Rattle.words.specs.Tests.{both}
use Rattle.gf64.specs.Gf64.{mul}

abbrev pub all : List Bool → Bool
all [] = true
all (b ∷ bs) = both b (all bs)

unfoldable pub cases : List Bool
cases =
    eqb (mul 0x97b750923ceb3ffd 0x216363698b529b4a) 0x1edd09798b7c1a7
    ∷ eqb (mul 0xea7b5bf55eb561a4 0x795b929e9a9a80fd) 0x1d171aa56e2a6fbb
    ∷ eqb (mul 0x94b2b8fda02f34a6 0x9b08923d10c67fd9) 0xc83cf437dc8f5e6e
    ∷ eqb (mul 0xe8a8529f035efa25 0x781f9c58d6645fa9) 0x2bb4b5a5c566ab7e
    ∷ eqb (mul 0x8d0038ec42650644 0x311624273bfd1d33) 0x53b64c9baeb851e
    ∷ eqb (mul 0xb7970386fee29476 0x8a7d43b578633074) 0x4de01a355d81759b
    ∷ []
