-- Every row of the table computes to what it states. A line that is parked at a unit's end or within a unit goes on from its byte, on whichever line its image is resumed: the image says exactly
-- the line, and where it is put does not enter.
-- Assumes nothing.
use mathlib.Core.Path.{◌≡◌, refl}
use mathlib.Core.List.{List, map}
use Prim.Native.Nat.{ℕ, ◌<◌, ◌≤◌}
use native.Mathlib.Omega.{arith}
use lib.Dec.{lit≤}
use Rattle.ciphers.specs.Fit.{Fit}
use Rattle.ciphers.specs.Table.{cipher_at, zuc, rabbit, snow128, snow256, kcipher2, mugi}
use Rattle.command.specs.Decode.{length_of}
use Rattle.card_moves.specs.Moves.{comes_due, position_on}
use Rattle.machine.specs.Machine.{MLine, plain, shown, based, image_of, image_line, byte_of, line_count, limit, decided, refuse_if, spare_used, blank_key}
use Rattle.machine.specs.Parks.{no_more}
use Rattle.words.specs.Lists.{Word}
use Rattle.lists.specs.OneStream.{GoesOn}
use Rattle.machine.proofs.Lines.{none-waits, good-open, good-behind, Good}
use Rattle.lists.proofs.Images.{image-goes-on}
use Rattle.lists.proofs.OneStream.{sized}
use Rattle.cases.specs.Table.{Row}
use Rattle.edges.specs.Table.{table, crypting, spanning, parking, parking_before, opening, changing}

pub edges : map (λ (r : Row). r.computed) table ≡ map (λ (r : Row). r.stated) table
unfolding table crypting spanning parking parking_before opening changing no_more decided refuse_if length_of spare_used blank_key cipher_at zuc rabbit snow128 snow256 kcipher2 mugi comes_due position_on
edges = refl

-- ZUC, whose unit is four bytes, at position n of the stream of S(0) = w
abbrev at : List ℕ → ℕ → MLine
at w n = plain 1 1 w 0 n

resumed : (w : List ℕ) (n i k : ℕ) → n ≤ limit → i < line_count → Word k → Fit (cipher_at 1) w → GoesOn (at w n) (based (image_line (image_of i k (shown (at w n)))))
resumed w n i k h b q f =
    let g : Good (at w n) = good-open {l = at w n} refl refl h (omega arith) f (none-waits refl refl) in
    image-goes-on (at w n) (good-behind (at w n) g) (sized (at w n) g refl refl) i k (omega (arith, b)) q (image_of i k (shown (at w n))) refl

pub at-a-unit's-end : (w : List ℕ) (i k : ℕ) → i < line_count → Word k → Fit (cipher_at 1) w → byte_of (based (image_line (image_of i k (shown (at w 4))))) 4 ≡ byte_of (at w 4) 4
at-a-unit's-end w i k b q f = (resumed w 4 i k (lit≤ tt) b q f).bytes 4 (lit≤ tt)

pub within-a-unit : (w : List ℕ) (i k : ℕ) → i < line_count → Word k → Fit (cipher_at 1) w → byte_of (based (image_line (image_of i k (shown (at w 5))))) 5 ≡ byte_of (at w 5) 5
within-a-unit w i k b q f = (resumed w 5 i k (lit≤ tt) b q f).bytes 5 (lit≤ tt)
