-- `rabbit::start::arrange_x` meets its contract: the parts are those of 7.3.2, step 2.
-- Assumes nothing.
use Rattle.std.proofs.Common.{refl}
use Rattle.words.proofs.Registers.{cons}
use Rattle.rabbit.specs.Cipher.{arranged}
use Rattle.rabbit.proofs.start.arrange_x.Goals as goal

pub returns : goal.returns
unfolding arranged
returns c =
    cons c.join.ensures
    (cons c.join-2.ensures
    (cons c.join-3.ensures
    (cons c.join-4.ensures
    (cons c.join-5.ensures
    (cons c.join-6.ensures
    (cons c.join-7.ensures
    (cons c.join-8.ensures
    refl)))))))
