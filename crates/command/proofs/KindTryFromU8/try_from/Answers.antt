-- `command`'s `Kind::try_from` meets its contract: what no arm has no command begins with.
-- Assumes nothing.
use mathlib.Core.Path.{refl}
use borrow.Author.Tests.{ne_eqb}
use Rattle.command.specs.Decode.{length_of}
use Rattle.command.proofs.KindTryFromU8.try_from.Goals as goal

pub returns-in_default : goal.returns-in_default
unfolding length_of
returns-in_default c = (
  refl,
  simp (
    ne_eqb _ _ c.in_default.in_default-own.rest.0.0.0.0.0.0.0.0.1,
    ne_eqb _ _ c.in_default.in_default-own.rest.0.0.0.0.0.0.0.1,
    ne_eqb _ _ c.in_default.in_default-own.rest.0.0.0.0.0.0.1,
    ne_eqb _ _ c.in_default.in_default-own.rest.0.0.0.0.0.1,
    ne_eqb _ _ c.in_default.in_default-own.rest.0.0.0.0.1,
    ne_eqb _ _ c.in_default.in_default-own.rest.0.0.0.1,
    ne_eqb _ _ c.in_default.in_default-own.rest.0.0.1,
    ne_eqb _ _ c.in_default.in_default-own.rest.0.1,
    ne_eqb _ _ c.in_default.in_default-own.rest.1,
  ),
)
