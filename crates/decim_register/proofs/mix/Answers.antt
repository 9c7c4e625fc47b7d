-- `decim_register::mix` meets its contract: of 32 turns the first feeds the bit of L and LF.
-- Assumes nothing.
use Rattle.decim_register.specs.Register.{mixed}
use Rattle.decim_register.proofs.Moves.{first-mixed}
use Rattle.decim_register.proofs.mix.Goals as goal

pub returns : goal.returns
unfolding mixed
returns c =
    rw (c.move_in.ensures, c.filter_word.ensures, c.feed_word-r.ensures, first-mixed c.args.a)
