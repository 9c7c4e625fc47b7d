-- `sealing_stream::walk_at` meets its contract: the words fit, and a byte's place lies within its unit.
-- Assumes nothing.
use mathlib.Core.Path.{refl, ap, sym, subst}
use mathlib.Core.List.{List}
use Prim.Native.Nat.{ℕ, ◌%◌}
use Rattle.command.specs.Decode.{number_of}
use Rattle.ciphers.specs.Table.{cipher_at}
use Rattle.ciphers.specs.Fit.{Fit}
use Rattle.ciphers.proofs.Sound.{unit-up, place-within}
use Rattle.sealing_stream.proofs.on_words.walk_at.Goals as goal

pub nonzero_rem-skip : goal.nonzero_rem-skip
nonzero_rem-skip c = unit-up (number_of c.args.c) _ c.unit_of-unit.ensures

pub invariant_of-result-clause-fit : goal.invariant_of-result-clause-fit
invariant_of-result-clause-fit c = ∣ subst (λ (w : List ℕ). Fit (cipher_at (number_of c.args.c)) w) (sym c.state_of-words.ensures) c.requires ∣₁

pub invariant_of-result-clause-within : goal.invariant_of-result-clause-within
invariant_of-result-clause-within c = place-within (number_of c.args.c) _ _ c.unit_of-unit.ensures

pub returns : goal.returns
returns c = record { cipher = refl; words = c.state_of-words.ensures; skip = ap (λ (u : ℕ). c.args.n % u) c.unit_of-unit.ensures }
