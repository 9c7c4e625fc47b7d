-- `card_admits::all_zero` meets its contract: the words so far are put together, and the whole is zero where each of them is.
-- Assumes nothing.
use Rattle.std.proofs.Common.{refl, rules}
use Rattle.card_admits.proofs.Walks.{gathered-more, gathered-all}
use Rattle.card_admits.proofs.all_zero.Goals as goal

pub loop-x-init : goal.loop-x-init
loop-x-init c = (search rules, refl)

pub loop-x-preserved : goal.loop-x-preserved
loop-x-preserved c = gathered-more c.args.s.now c.loop-x.all c.loop-x.x-index (search rules) c.loop-x.invariant

pub returns : goal.returns
returns c = gathered-all c.args.s.now c.loop-x.all c.loop-x.x-index (search rules) c.loop-x.invariant
