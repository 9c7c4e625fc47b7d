-- `ciphers::number_of` meets its contract: it is a column of the cipher's row.
-- Assumes nothing.
use mathlib.Core.Path.{ap}
use Rattle.ciphers.specs.declared.Columns.{Columns}
use borrow.Author.Rules.{rules}
use Rattle.ciphers.proofs.number_of.Goals as goal

pub returns : goal.returns
returns c = ap (λ (r : Columns). r.number) c.row-r.ensures
