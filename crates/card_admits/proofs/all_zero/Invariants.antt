-- `card_admits::all_zero` meets its contract: the words so far are put together, and the whole is zero where each of them is.
-- Assumes nothing.
use Rattle.card_admits.proofs.Walks.{Gathered}
use Rattle.card_admits.proofs.all_zero.Given as goal

abbrev pub invariant-loop-x : goal.invariant-loop-x
invariant-loop-x l = Gathered l.s l.all l.x-index
