-- `cipher_words::of_mugi::Mugi::load` meets its contract: the blocks, one by one, are those of the state.
-- Assumes nothing.
use Rattle.cipher_words.proofs.Blocks.{state-is}
use Rattle.cipher_words.proofs.of_mugi.MugiStored.load.Goals as goal

pub returns : goal.returns
returns c = rw c.blocks_in-x.ensures (state-is c.args.w.now)
