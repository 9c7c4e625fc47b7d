-- `session::start` meets its contract: a fresh card, and nothing used or written.
-- Assumes nothing.
use mathlib.Core.Path.{ap}
use Rattle.card.specs.declared.Card.{Card}
use borrow.Author.Rules.{rules}
use Rattle.session.proofs.start.Goals as goal

pub returns : goal.returns
returns c = ap (λ (x : Card). record { card = x; command = 0; «data» = 0; out = 0; table = c.args.table; records = 0; calls = 0; code = 0 }) c.fresh-card.ensures
