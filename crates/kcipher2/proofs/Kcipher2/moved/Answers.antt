-- `kcipher2::Kcipher2::moved` meets its contract: both registers are moved by one.
-- Assumes nothing.
use Rattle.kcipher2.proofs.Kcipher2.moved.Goals as goal

pub returns : goal.returns
returns c = rw (c.shift11-moved_b.ensures, c.shift5-moved_a.ensures)
