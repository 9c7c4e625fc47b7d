-- Numbers in fields of bytes, one field behind the other, each most significant byte first: what an image is written and read by.
-- Assumes nothing.
use Rattle.std.specs.Prelude.{List, [], ◌∷◌, ◌++◌, ℕ, zero, suc, ◌+◌, ◌*◌, ◌/◌, ◌%◌, ◌^◌, get_or, drop}

-- a number in a field of w bytes
abbrev pub field_bytes : ℕ → ℕ → List ℕ
field_bytes zero x = []
field_bytes (suc w) x = x / 2 ^ (8 * w) % 2 ^ 8 ∷ field_bytes w x

-- the number in the w bytes from byte i on
abbrev pub number_at : ℕ → List ℕ → ℕ → ℕ
number_at zero s i = 0
number_at (suc w) s i = get_or s i 0 * 2 ^ (8 * w) + number_at w s (i + 1)

-- numbers in fields of these widths; where there is none, 0
abbrev pub in_fields : List ℕ → List ℕ → List ℕ
in_fields [] xs = []
in_fields (w ∷ ws) xs = field_bytes w (get_or xs 0 0) ++ in_fields ws (drop 1 xs)

-- the numbers in the fields of these widths, from byte i on
abbrev pub fields_at : List ℕ → List ℕ → ℕ → List ℕ
fields_at [] s i = []
fields_at (w ∷ ws) s i = number_at w s i ∷ fields_at ws s (i + w)
