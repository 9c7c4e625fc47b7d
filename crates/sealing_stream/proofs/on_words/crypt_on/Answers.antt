-- `sealing_stream::crypt_on` meets its contract: the words are those of a walk at byte n.
-- Assumes nothing.
use Rattle.sealing_stream.proofs.OnWords.{crypts-on}
use Rattle.sealing_stream.proofs.on_words.crypt_on.Goals as goal

pub returns : goal.returns
returns c = crypts-on _ _ _ _ _ _ c.walk_at-walk.ensures c.copy_from_slice.ensures.after c.requires.fit c.crypt_on.ensures
