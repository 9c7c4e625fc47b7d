-- `cipher_words::of_mugi::Mugi::words` meets its contract: the blocks, one by one, are those of the state, and fill the words.
-- Assumes nothing.
use mathlib.Core.Path.{◌∙◌}
use Rattle.cipher_words.proofs.Blocks.{words-is}
use Rattle.cipher_words.proofs.of_mugi.MugiStored.words.Goals as goal

pub returns : goal.returns
returns c = c.words_of.ensures ∙ words-is c.args.self c.requires.three c.requires.sixteen
