-- `mugi::Mugi::output` meets its contract: the block of keystream is a2.
-- Assumes nothing.
use mathlib.Core.Path.{refl}
use Rattle.mugi.specs.Cipher.{strm}
use Rattle.mugi.proofs.Mugi.output.Goals as goal

pub returns : goal.returns
unfolding strm
returns c = refl
