-- `sealing_stream::Walk::next_block` meets its contract: eight zeros, crypted, are the block.
-- Assumes nothing.
use Rattle.sealing_stream.proofs.Walks.{block_read}
use Rattle.sealing_stream.proofs.Walk.next_block.Goals as goal

pub returns : goal.returns
returns c =
    record {
      read = λ k s i h. block_read k s i _ _ _ _ (c.crypt_on.ensures.crypted k s _ h) c.block_at.ensures;
      on = λ k s n h. (c.crypt_on.ensures.crypted k s n h).stands;
    }
