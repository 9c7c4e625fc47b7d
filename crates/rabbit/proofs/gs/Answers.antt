-- `rabbit::gs` meets its contract: each G is that of its own X and C.
-- Assumes nothing.
use Rattle.std.proofs.Common.{refl}
use Rattle.words.proofs.Registers.{cons}
use Rattle.rabbit.specs.Cipher.{gs}
use Rattle.rabbit.proofs.gs.Goals as goal

pub returns : goal.returns
unfolding gs
returns c =
    cons c.g.ensures
    (cons c.g-2.ensures
    (cons c.g-3.ensures
    (cons c.g-4.ensures
    (cons c.g-5.ensures
    (cons c.g-6.ensures
    (cons c.g-7.ensures
    (cons c.g-8.ensures
    refl)))))))
