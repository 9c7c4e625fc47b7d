-- A conference's buffer: the members' parts, one behind the other, and what each is sent, in its place.
-- Assumes nothing.
use Rattle.std.specs.Prelude.{List, [], ◌∷◌, ◌++◌, ℕ, zero, suc, ◌*◌, take, drop}
use Rattle.card_mix.specs.Sums.{mix_for}

-- f 0, .., f (m - 1), one behind the other
abbrev pub join_tab : ℕ → (ℕ → List ℕ) → List ℕ
join_tab zero f = []
join_tab (suc m) f = f zero ++ join_tab m (λ k. f (suc k))

-- m parts of n bytes each
abbrev pub parts_in : (m n : ℕ) → List ℕ → List (List ℕ)
parts_in zero n l = []
parts_in (suc m) n l = take n l ∷ parts_in m n (drop n l)

-- the k-th part of n bytes
abbrev pub part_at : ℕ → List ℕ → ℕ → List ℕ
part_at n l k = take n (drop (k * n) l)

-- in each member's place the clamped sums of the others
unfoldable pub mixes_of : (m n : ℕ) → List ℕ → List ℕ
mixes_of m n l = join_tab m (mix_for n (parts_in m n l))
