-- A step in the parts that the code has. The step of the clause is `next`; a step in parts is proved to be one.
-- Assumes nothing.
use Rattle.std.specs.Prelude.{List, [], ◌∷◌, ℕ}
use Rattle.words.specs.Word.{◌⊕◌}
use Rattle.mugi.specs.declared.Mugi.{Mugi}
use Rattle.mugi.specs.Cipher.{cell, d1, d2, rotl64, f, lambda1}

-- a after ρ1, where F gives x and y
abbrev pub stirred : List ℕ → (x y : ℕ) → List ℕ
stirred a x y = cell a 1 ∷ cell a 2 ⊕ x ⊕ d1 ∷ cell a 0 ⊕ y ⊕ d2 ∷ []

-- what F gives in a step
unfoldable pub first : Mugi → ℕ
first s = f (cell s.a 1 ⊕ cell s.b 4)

unfoldable pub second : Mugi → ℕ
second s = f (cell s.a 1 ⊕ rotl64 17 (cell s.b 10))

-- the state after a step where F gives x and y
abbrev pub moved : Mugi → (x y : ℕ) → Mugi
moved s x y = record { a = stirred s.a x y; b = lambda1 s.b (cell s.a 0) }
