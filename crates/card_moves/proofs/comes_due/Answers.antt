-- `card_moves::comes_due` meets its contract: the test by differences is the test by sums.
-- Assumes nothing.
use native.Mathlib.Omega.{arith}
use Rattle.card_moves.proofs.Due.{by-difference, not-above}
use Rattle.card_moves.proofs.comes_due.Goals as goal

pub returns-then-n-due : goal.returns-then-n-due
returns-then-n-due c = by-difference c.args.n c.args.due c.args.count (omega (arith, c.if-n-due.true))

pub returns-else-n-due : goal.returns-else-n-due
returns-else-n-due c = not-above c.args.n c.args.due c.args.count (λ h. omega (arith, h, c.if-n-due.false))
