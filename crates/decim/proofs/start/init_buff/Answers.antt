-- `decim::start::init_buff` meets its contract: of 32 turns the first four move the register and feed the buffer.
-- Assumes nothing.
use Rattle.decim.proofs.Turns.{filling-on}
use Rattle.decim.proofs.start.init_buff.Goals as goal

pub returns : goal.returns
returns c =
    filling-on c.args.st c.f_word-f.ensures c.four-b.ensures c.feed.ensures
