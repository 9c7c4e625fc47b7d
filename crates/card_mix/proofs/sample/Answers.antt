-- `card_mix::sample` meets its contract: two bytes, and 32,768 higher.
-- Assumes nothing.
use Rattle.card_mix.specs.Columns.{raised_at}
use Rattle.card_mix.proofs.sample.Goals as goal

pub returns : goal.returns
unfolding raised_at
returns c = rw c.from_be_bytes.ensures
