-- `mugi::start::add` meets its contract: the literal is the list.
-- Assumes nothing.
use mathlib.Core.Path.{refl}
use Rattle.mugi.specs.Cipher.{added}
use Rattle.mugi.proofs.start.add.Goals as goal

pub returns : goal.returns
unfolding added
returns c = refl
