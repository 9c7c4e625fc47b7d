-- `words::shift16` meets its contract: a register of sixteen cells, moved, is the literal of its cells.
-- Assumes nothing.
use mathlib.Core.Path.{sym}
use Rattle.words.proofs.Registers.{shifted-cells}
use borrow.Author.Rules.{rules}
use Rattle.words.proofs.shift16.Goals as goal

pub returns : goal.returns
returns c = sym (shifted-cells 15 c.args.a c.args.x (search rules))
