-- Tests: what picks one of two by a Bool, and what joins two tests.
-- Assumes nothing.
use Rattle.std.specs.Prelude.{Bool, true, false}

-- the first where the test holds, else the second
abbrev pub pick {ℓ} : {A : Type ℓ} → Bool → A → A → A
pick true a b = a
pick false a b = b

-- both hold
abbrev pub both : Bool → Bool → Bool
both true b = b
both false b = false
