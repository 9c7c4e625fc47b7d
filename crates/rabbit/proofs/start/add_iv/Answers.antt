-- `rabbit::start::add_iv` meets its contract: what its parts ensure, put together.
-- Assumes nothing.
use Rattle.std.proofs.Common.{◌≡◌}
use Rattle.rabbit.specs.Cipher.{parts4, with_iv}
use Rattle.rabbit.proofs.start.add_iv.Goals as goal

pub returns : goal.returns
unfolding with_iv parts4
returns c =
    let h : c.parts.result ≡ parts4 c.args.iv.now = c.parts.ensures in
    rw (c.modify-c.ensures, c.iv_words.ensures, h)
