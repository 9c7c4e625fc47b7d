-- `sealing_stream::next_block` meets its contract: the words are those of a walk at block i.
-- Assumes nothing.
use Rattle.sealing_stream.proofs.OnWords.{reads-next}
use Rattle.sealing_stream.proofs.on_words.next_block.Goals as goal

pub returns : goal.returns
returns c = reads-next _ _ _ c.args.i _ _ c.walk_at-walk.ensures c.copy_from_slice.ensures.after c.requires.fit c.next_block-x.ensures
