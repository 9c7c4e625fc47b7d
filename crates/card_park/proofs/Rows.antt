-- What the rows of a park ask: first of its line, then of the parks and of out.
-- Assumes nothing.
use mathlib.Core.Path.{◌≡◌, ap}
use mathlib.Core.Bool.{Bool}
use mathlib.Core.List.{List}
use Prim.Native.Nat.{ℕ}
use lib.Dec.{ltb}
use lib.ListN.{length}
use Rattle.card_sizes.specs.Sizes.{image_length, park_length}
use Rattle.command.specs.declared.Command.TheVariants.{Park}
use Rattle.command.specs.Decode.{length_of}
use Rattle.command.specs.Rows.{unless}
use Rattle.card_rows.specs.Rows.{park_rows}
use Rattle.machine.specs.Machine.{View, Effect, park, refuse_if, decided}
use Rattle.machine.specs.Parks.{no_more}
use Rattle.machine.specs.Calls.{line_on}
use Rattle.card_layout.specs.Words.{card_in}
use Rattle.card_outcome.specs.Leaves.{call_of, public_of}
use Rattle.card_outcome.proofs.Laws.{view-is}

-- a park of line i, once the line is judged, where no park from it is left or one is, and out has this length
abbrev pub park_with : (i : ℕ) (spent : Bool) (out : ℕ) → Effect
park_with i spent out = refuse_if spent 15 (refuse_if (ltb out image_length) 12 (park i park_length))

-- the rows of a park, by what is read of its line
pub park-decided : (ws : List ℕ) (i : ℕ) (command tray text out : List ℕ) → let l = line_on (card_in ws) i in
    decided (Park i) (public_of ws) (call_of command tray text out) ≡ unless refuse_if (park_rows l.mode l.due) (park_with i (no_more (public_of ws).parks i) (length out))
unfolding decided refuse_if length_of
park-decided ws i command tray text out =
    ap (λ (v : View). unless refuse_if (park_rows v.mode v.due) (park_with i (no_more (public_of ws).parks i) (length out))) (view-is ws i)
