-- Images: the line that starts from an image goes on where its line stood.
-- Assumes nothing.
use mathlib.Core.Path.{◌≡◌, refl, ap, sym, ◌∙◌, subst}
use mathlib.Core.List.{List}
use Prim.Native.Nat.{ℕ, ◌/◌, ◌^◌, ◌<◌, ◌≤◌}
use Rattle.keystream.proofs.Laws.{state_at-rebase, byte_at-rebase, div_mono}
use Rattle.machine.specs.Machine.{Line, MLine, gen_at, unit_at, state_of, byte_of, shown, based, image_of, image_line}
use Rattle.words.specs.Lists.{Word}
use Rattle.lists.specs.OneStream.{GoesOn}
use Rattle.machine.proofs.Fields.{Sized, image-back}
use Rattle.machine.proofs.Lines.{unit-pos}

-- a line that starts anew from what is seen of it goes on where the line stands
pub anew-goes-on : (l : MLine) → l.from ≤ unit_at l → GoesOn l (based (shown l))
unfolding byte_of based shown state_of unit_at
anew-goes-on l b =
    record {
      mode = refl;
      cipher = refl;
      position = refl;
      bytes = λ j h. byte_at-rebase (gen_at l) (unit-pos l.cipher) l.base l.from (unit_at l) j b (div_mono (gen_at l).unit (unit-pos l.cipher) l.pos j h);
      states = λ j h. state_at-rebase (gen_at l) (unit-pos l.cipher) l.base l.from (unit_at l) (j / (gen_at l).unit) b (div_mono (gen_at l).unit (unit-pos l.cipher) l.pos j h);
    }

-- and so does the line of its image
pub image-goes-on : (l : MLine) → l.from ≤ unit_at l → Sized (shown l) → (i k : ℕ) → i < 2 ^ 8 → Word k → (image : List ℕ) → image ≡ image_of i k (shown l) → GoesOn l (based (image_line image))
image-goes-on l b s i k q h image e =
    subst (λ (x : Line). GoesOn l (based x)) (sym (ap image_line e ∙ image-back i k q h (shown l) s)) (anew-goes-on l b)
