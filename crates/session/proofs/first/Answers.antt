-- `session::first` meets its contract: a shorter file is its own first bytes.
-- Assumes nothing.
use Rattle.session.proofs.Read.{first-length, first-is}
use borrow.Author.Rules.{rules}
use Rattle.session.proofs.first.Goals as goal

pub slice_bounds-result-end : goal.slice_bounds-result-end
slice_bounds-result-end c = first-length _ _ c.min-e.ensures

pub returns : goal.returns
returns c = first-is _ _ c.min-e.ensures
