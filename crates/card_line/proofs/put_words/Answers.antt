-- `card_line::put_words` meets its contract: zeros, the state among them, and the words before it.
-- Assumes nothing.
use Rattle.card_line.proofs.Lines.{head-state}
use Rattle.card_line.proofs.put_words.Goals as goal

pub returns : goal.returns
returns c =
    head-state c.args.mode c.args.cipher c.args.n c.args.state.now _ _ _ c.clear.ensures c.copy_from_slice.ensures.after c.put_head.ensures
