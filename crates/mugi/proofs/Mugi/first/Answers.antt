-- `mugi::Mugi::first` meets its contract: F of a1 and b4.
-- Assumes nothing.
use Rattle.mugi.specs.Steps.{first}
use Rattle.mugi.proofs.Mugi.first.Goals as goal

pub returns : goal.returns
unfolding first
returns c = c.f.ensures
