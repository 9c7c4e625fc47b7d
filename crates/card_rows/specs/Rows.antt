-- The rows of a command that go by numbers alone: those of a crypt, of a park, of a change, and of a key that is taken from the tray.
-- Assumes nothing.
use Rattle.std.specs.Prelude.{not, List, [], ◌∷◌, ℕ, ◌+◌, ◌*◌, ltb, eqb}
use Rattle.card_sizes.specs.Sizes.{limit, key_length}
use Rattle.card_moves.specs.Moves.{position_on}
use Rattle.command.specs.Rows.{Row, ◌when◌, tray_ok, either}

-- a crypt of count bytes on a line in this mode at n, with a change that waits at due or none, and data and out of these lengths
abbrev pub crypt_rows : (mode n due count text out : ℕ) → List Row
crypt_rows mode n due count text out =
    (6 when not (eqb mode 1)) ∷ (13 when ltb limit (position_on n due count)) ∷ (11 when ltb text count) ∷ (12 when ltb out count) ∷ []

-- a park of a line in this mode, with a change that waits at due or none; those of the parks and of out come after them
abbrev pub park_rows : (mode due : ℕ) → List Row
park_rows mode due = (6 when not (eqb mode 1)) ∷ (17 when not (eqb due 0)) ∷ []

-- a change at position p on a line in this mode at n, with a change that waits at due or none
abbrev pub change_rows : (mode n due p : ℕ) → List Row
change_rows mode n due p = (6 when not (eqb mode 1)) ∷ (17 when not (eqb due 0)) ∷ (18 when either (ltb p n) (ltb limit p)) ∷ []

-- key k of a tray of this length
abbrev pub tray_rows : (tray k : ℕ) → List Row
tray_rows tray k = (9 when not (tray_ok tray)) ∷ (10 when ltb tray (key_length * k + key_length)) ∷ []
