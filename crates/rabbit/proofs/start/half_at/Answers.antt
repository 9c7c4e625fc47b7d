-- `rabbit::start::half_at` meets its contract: two bytes make 16 bits.
-- Assumes nothing.
use Rattle.rabbit.specs.Cipher.{half_at}
use Rattle.std.proofs.Common.{arith}
use Rattle.rabbit.proofs.start.half_at.Goals as goal

pub returns : goal.returns
unfolding half_at
returns c = omega (arith, c.from_le_bytes.ensures)
