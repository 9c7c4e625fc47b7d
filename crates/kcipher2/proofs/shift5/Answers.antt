-- `kcipher2::shift5` meets its contract: the register, moved, is the literal of its cells.
-- Assumes nothing.
use Rattle.std.proofs.Common.{sym, rules}
use Rattle.words.proofs.Registers.{shifted-cells}
use Rattle.kcipher2.proofs.shift5.Goals as goal

pub returns : goal.returns
returns c = sym (shifted-cells 4 c.args.a c.args.x (search rules))
