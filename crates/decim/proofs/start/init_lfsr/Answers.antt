-- `decim::start::init_lfsr` meets its contract: what four turns ensure, put together.
-- Assumes nothing.
use Rattle.words.specs.Lists.{iter}
use Rattle.decim_register.specs.Register.{init_next_lfsr}
use Rattle.decim.proofs.start.init_lfsr.Goals as goal

pub returns : goal.returns
unfolding init_next_lfsr iter
returns c =
    rw (c.mix-4.ensures, c.mix-3.ensures, c.mix-2.ensures, c.mix.ensures)
