-- `rabbit::start::load` meets its contract: what its parts ensure, put together.
-- Assumes nothing.
use Rattle.std.proofs.Common.{◌≡◌}
use Rattle.rabbit.specs.Cipher.{parts8, loaded, arranged}
use Rattle.rabbit.proofs.start.load.Goals as goal

pub returns : goal.returns
unfolding loaded arranged parts8
returns c =
    let k : c.parts-k.result ≡ parts8 c.args.key.now = c.parts-k.ensures in
    rw (c.arrange_c-c.ensures, c.arrange_x-x.ensures, k)
