-- `mugi::f` meets its contract: each half of X' is mixed, then the bytes are shuffled.
-- Assumes nothing.
use mathlib.Core.Path.{◌∙◌}
use Rattle.mugi.proofs.Blocks.{f-by}
use Rattle.mugi.proofs.f.Goals as goal

pub returns : goal.returns
returns c =
    c.shuffle.ensures
    ∙ f-by c.args.x c.mixed-l.result c.mixed-r.result (rw c.left.ensures at c.mixed-l.ensures) (rw c.right.ensures at c.mixed-r.ensures)
