-- `decim::start::load` meets its contract: the words, one by one, are joined of the register's bits.
-- Assumes nothing.
use mathlib.Core.Path.{refl}
use Rattle.words.proofs.Registers.{cons}
use Rattle.decim_register.specs.Register.{of_bits}
use Rattle.decim.specs.Cipher.{loaded}
use Rattle.decim.proofs.start.load.Goals as goal

pub returns : goal.returns
unfolding loaded of_bits
returns c =
    cons c.load_word.ensures
    (cons c.load_word-2.ensures
    (cons c.load_word-3.ensures (cons c.load_word-4.ensures (cons c.load_word-5.ensures (cons c.load_word-6.ensures refl)))))
