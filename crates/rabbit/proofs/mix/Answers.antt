-- `rabbit::mix` meets its contract: each X is the sum of 7.3.3, step 6.
-- Assumes nothing.
use Rattle.std.proofs.Common.{refl}
use Rattle.words.proofs.Registers.{cons}
use Rattle.rabbit.specs.Cipher.{mixed}
use Rattle.rabbit.proofs.mix.Goals as goal

pub returns : goal.returns
unfolding mixed
returns c =
    cons c.even.ensures
    (cons c.odd.ensures
    (cons c.even-2.ensures
    (cons c.odd-2.ensures
    (cons c.even-3.ensures
    (cons c.odd-3.ensures
    (cons c.even-4.ensures
    (cons c.odd-4.ensures
    refl)))))))
