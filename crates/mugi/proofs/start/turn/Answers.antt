-- `mugi::start::turn` meets its contract: ρ1 without b needs F once.
-- Assumes nothing.
use Rattle.mugi.proofs.Steps.{turned_by}
use Rattle.mugi.proofs.start.turn.Goals as goal

pub returns : goal.returns
returns c = rw (c.stir.ensures, c.f-x.ensures) (turned_by _)
