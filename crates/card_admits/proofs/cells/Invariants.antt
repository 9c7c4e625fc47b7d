-- `card_admits::cells` meets its contract: the words before i are put together with the numbers before them, and the whole has no highest digit where each is a cell.
-- Assumes nothing.
use Rattle.card_admits.proofs.Walks.{Celled}
use Rattle.card_admits.proofs.cells.Given as goal

abbrev pub invariant-loop-i : goal.invariant-loop-i
invariant-loop-i l = Celled l.w l.all l.i
