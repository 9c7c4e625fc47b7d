-- `card_parks::is_held` meets its contract: 0 is not held, and another number is the one that stands behind the counts.
-- Assumes nothing.
use Rattle.std.proofs.Common.{ℕ, eqb, ap}
use borrow.Author.Tests.{eq-eqb, ne_eqb}
use Rattle.machine.specs.Parks.{holds}
use Rattle.card_parks.proofs.Parks.{held-is}
use Rattle.card_parks.proofs.is_held.Goals as goal

pub returns-then-k-ne0 : goal.returns-then-k-ne0
unfolding holds
returns-then-k-ne0 c =
    rw (ne_eqb _ _ c.if-k-ne0.true) (ap (λ (x : ℕ). eqb x c.args.k) (held-is c.args.card.now c.args.i))

pub returns-else-k-ne0 : goal.returns-else-k-ne0
unfolding holds
returns-else-k-ne0 c = rw (eq-eqb _ _ c.if-k-ne0.false)
