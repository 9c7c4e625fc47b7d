-- `writer::put_words_up` meets its contract: the second two words go to the part after the first two, which is lent and comes back.
-- Assumes nothing.
use lib.ListN.{get_or}
use Rattle.writer.proofs.Words.{four-put-up}
use Rattle.writer.proofs.put_words_up.Goals as goal

pub returns : goal.returns
returns c =
    four-put-up (get_or c.args.z 0 0) (get_or c.args.z 1 0) (get_or c.args.z 2 0) (get_or c.args.z 3 0) c.args.text.now c.args.out.now _ _ c.requires.0 c.requires.1 c.put_two_up.ensures c.put_two_up-2.ensures
