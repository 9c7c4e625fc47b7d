-- `zuc::Zuc::init` meets its contract. The loop's invariant: the state is that of as many steps in INIT mode as there were turns.
-- Assumes nothing.
use Rattle.std.proofs.Common.{◌≡◌}
use Rattle.words.specs.Lists.{iter}
use Rattle.zuc.specs.Cipher.{next_init}
use Rattle.zuc.proofs.Zuc.init.Given as goal

abbrev pub invariant-loop : goal.invariant-loop
invariant-loop l = l.s ≡ iter l.counter next_init l.initial.s
