-- `card_state::state_of` meets its contract: as many words as a state has are all of them.
-- Assumes nothing.
use mathlib.Core.Path.{◌∙◌}
use lib.Seq.{take_all}
use native.Mathlib.Omega.{arith}
use Rattle.card_state.proofs.state_of.Goals as goal

pub returns : goal.returns
returns c = c.front.ensures ∙ take_all 38 c.args.w.now (omega (arith, c.requires))
