-- The table that the program prints (document 01, `cardrun`): column names, the line of a call, the last line.
-- Assumes nothing.
use Rattle.std.specs.Prelude.{List, [], ◌∷◌, ◌++◌, ℕ, ◌-◌, eqb}
use Rattle.words.specs.Tests.{pick}
use Rattle.text.specs.Text.{figure, space, newline}

-- "call code cmd data out" and a newline
abbrev pub columns : List ℕ
columns =
    99 ∷ 97 ∷ 108 ∷ 108 ∷ 32 ∷ 99 ∷ 111 ∷ 100 ∷ 101 ∷ 32 ∷ 99 ∷ 109 ∷ 100 ∷ 32 ∷ 100 ∷ 97 ∷ 116 ∷ 97 ∷ 32 ∷ 111 ∷ 117 ∷ 116 ∷ 10 ∷ []

-- "end "
abbrev pub last : List ℕ
last = 101 ∷ 110 ∷ 100 ∷ 32 ∷ []

-- call number, code, bytes used of command and data, bytes written
unfoldable pub call_row : (i code command text written : ℕ) → List ℕ
call_row i code command text written =
    (((figure i space ++ figure code space) ++ figure command space) ++ figure text space) ++ figure written newline

-- the last line: accepted calls, last code
unfoldable pub end_of : (count code : ℕ) → List ℕ
end_of count code = (last ++ figure count space) ++ figure code newline

-- accepted calls: all but a last one that was refused
unfoldable pub accepted_of : (calls code : ℕ) → ℕ
accepted_of calls code = pick (eqb code 0) calls (calls - 1)
