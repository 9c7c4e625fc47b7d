-- `writer::put_words` meets its contract: the second word goes to the part after the first, which is lent and comes back.
-- Assumes nothing.
use lib.ListN.{get_or}
use Rattle.writer.proofs.Words.{two-put}
use Rattle.writer.proofs.put_words.Goals as goal

pub returns : goal.returns
returns c =
    two-put (get_or c.args.z 0 0) (get_or c.args.z 1 0) c.args.text.now c.args.out.now _ _ c.requires.0 c.requires.1 c.put_word.ensures c.put_word-2.ensures
