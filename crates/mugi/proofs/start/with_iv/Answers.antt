-- `mugi::start::with_iv` meets its contract: what its parts ensure, put together.
-- Assumes nothing.
use Rattle.mugi.specs.Cipher.{with_iv}
use Rattle.mugi.proofs.start.with_iv.Goals as goal

pub returns : goal.returns
unfolding with_iv
returns c = rw (c.turns-mixed_a.ensures, c.add.ensures, c.spread-v.ensures)
