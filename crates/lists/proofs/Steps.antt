-- Demand 3 of a card: every list of its steps from a fresh card is the machine's, since on every card that the calls before it left its step is the machine's.
-- Assumes nothing.
use mathlib.Core.Path.{◌≡◌, refl, ap, ap₂, sym, ◌∙◌}
use mathlib.Core.List.{List, ◌∷◌}
use Rattle.machine.specs.Machine.{Machine, Seen, Shown, seen, shows, step, card_step, fresh_machine, fresh_card}
use Rattle.machine.specs.Calls.{Made, made_of, machine_run, calls_of, AllBytes}
use Rattle.lists.specs.OneStream.{OneStream}
use Rattle.lists.specs.Counted.{Counted}
use Rattle.lists.specs.Parking.{ParkedCalls, SameImages}
use Rattle.lists.specs.Steps.{Steps, none, step as stepped}
use Rattle.machine.proofs.Simulation.{GoodCard, step_same, step-good, fresh-good, fresh-seen}
use Rattle.lists.proofs.OneStream.{machine-one-stream}
use Rattle.lists.proofs.Counted.{machine-counted}
use Rattle.lists.proofs.Parking.{machine-parked-calls, machine-same-images}

steps-are : {c : Seen} {xs : List Made} → Steps c xs → (m : Machine) → GoodCard m → c ≡ seen m → xs ≡ machine_run m (calls_of xs)
steps-are none m g e = refl
steps-are (stepped {c = c} {a = a} b t) m g e =
    let s : card_step c a ≡ shows (step m a) = ap (λ (x : Seen). card_step x a) e ∙ step_same m g a b in
    ap₂ ◌∷◌ (ap (made_of a) s) (steps-are t (step m a).machine (step-good m g a b) (ap (λ (x : Shown). x.card) s))

-- The buffers that a key, an IV or an image was read from held bytes.
pub steps-bytes : {c : Seen} {xs : List Made} → Steps c xs → AllBytes xs
steps-bytes none = tt
steps-bytes (stepped b t) = (b, steps-bytes t)

-- Every list of steps, refused calls among them, from a fresh card.
pub steps-one-stream : (xs : List Made) → Steps fresh_card xs → OneStream xs
steps-one-stream xs h = machine-one-stream xs (steps-are h fresh_machine fresh-good (sym fresh-seen)) (steps-bytes h)

-- In such a list the crypts of a line take positions one after the other, none past 2^36, and 255 is never said.
pub steps-counted : (xs : List Made) → Steps fresh_card xs → Counted xs
steps-counted xs h = machine-counted xs (steps-are h fresh_machine fresh-good (sym fresh-seen)) (steps-bytes h)

-- In such a list an image that a park wrote is taken up once, and until its line parks again.
pub steps-parked-calls : (xs : List Made) → Steps fresh_card xs → ParkedCalls xs
steps-parked-calls xs h = machine-parked-calls xs (steps-are h fresh_machine fresh-good (sym fresh-seen)) (steps-bytes h)

-- In any two such lists a park from a line writes the same where the line's cipher, position, state and accepted parks before it are the same.
pub steps-same-images : (xs ys : List Made) → Steps fresh_card xs → Steps fresh_card ys → SameImages xs ys
steps-same-images xs ys h k =
    machine-same-images xs ys (steps-are h fresh_machine fresh-good (sym fresh-seen)) (steps-are k fresh_machine fresh-good (sym fresh-seen)) (steps-bytes h) (steps-bytes k)
