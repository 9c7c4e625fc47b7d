-- A register that a loop has stored to the end is the table of what it stored.
-- Assumes nothing.
use Rattle.std.proofs.Common.{◌≡◌, ℕ, List, [], ◌++◌, length, drop, append-nil, arith, drop_of_length-le}
use Rattle.words.specs.Lists.{tab}

pub whole : (n i : ℕ) (f : ℕ → ℕ) (z next : List ℕ) → i ≡ n → length z ≡ n → next ≡ tab i f ++ drop i z → next ≡ tab n f
whole n i f z next e l k = let none : drop n z ≡ [] = drop_of_length-le z {i = n} (omega arith) in rw (k, e, none) (append-nil (tab n f))
