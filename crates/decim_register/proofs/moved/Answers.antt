-- `decim_register::moved` meets its contract: six words moved by one are the literal of them.
-- Assumes nothing.
use mathlib.Core.Path.{sym}
use Rattle.words.proofs.Registers.{shifted-cells}
use borrow.Author.Rules.{rules}
use Rattle.decim_register.proofs.moved.Goals as goal

pub returns : goal.returns
returns c = sym (shifted-cells 5 c.args.a c.args.r (search rules))
