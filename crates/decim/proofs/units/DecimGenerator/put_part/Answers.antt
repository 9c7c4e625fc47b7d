-- `decim::units::Decim::put_part` meets its contract: the bytes that the writer writes are those of the unit.
-- Assumes nothing.
use mathlib.Core.Path.{ap, ◌∙◌}
use mathlib.Core.List.{[], ◌∷◌}
use Prim.Native.Nat.{ℕ}
use Rattle.decim.specs.Cipher.{unit}
use Rattle.keystream.proofs.Parts.{put-of}
use Rattle.decim.proofs.units.DecimGenerator.put_part.Goals as goal

pub returns : goal.returns
unfolding unit
returns c = put-of c.args.from c.args.count c.args.text.now c.args.out.now _ (ap (λ (z : ℕ). z ∷ []) c.output.ensures) c.put_part.ensures
