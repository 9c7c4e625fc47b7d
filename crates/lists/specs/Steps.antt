-- A list of calls on a card, each on the card that the step of the call before it shows, and each lent bytes.
-- Assumes nothing.
use Rattle.std.specs.Prelude.{List, [], ◌∷◌}
use Rattle.machine.specs.Machine.{Call, Seen, card_step}
use Rattle.machine.specs.Calls.{Made, made_of, CallBytes}

pub data Steps : Seen → List Made → Type 0 where
  none : {c : Seen} → Steps c []
  step : {c : Seen} {a : Call} {xs : List Made} → CallBytes a → Steps (card_step c a).card xs → Steps c (made_of a (card_step c a) ∷ xs)
