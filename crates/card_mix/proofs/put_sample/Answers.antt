-- `card_mix::put_sample` meets its contract: two stores.
-- Assumes nothing.
use Rattle.std.proofs.Common.{◌≡◌, ◌/◌, ◌%◌, arith}
use Rattle.card_mix.specs.Columns.{stored}
use Rattle.card_mix.proofs.put_sample.Goals as goal

pub returns : goal.returns
unfolding stored
returns c = let high : c.args.x / 256 % 256 ≡ c.args.x / 256 = omega arith in rw (c.to_be_bytes-b.ensures, high)
