-- `cipher_text::turns` meets its contract. The loop's invariant: i turns of the text are done.
-- Assumes nothing.
use Prim.Native.Nat.{◌*◌}
use Rattle.keystream.proofs.Parts.{Running}
use Rattle.cipher_text.proofs.turns.Given as goal

abbrev pub invariant-loop-i : goal.invariant-loop-i
invariant-loop-i g l = Running g.G.Generator.generator g.G.Generator.UNIT l.fn.st l.text l.initial.out l.out l.cur (l.i * g.G.Generator.TURN)
