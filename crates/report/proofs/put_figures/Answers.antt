-- `report::put_figures` meets its contract: each figure goes behind those before it.
-- Assumes nothing.
use mathlib.Core.Path.{refl, ◌∙◌}
use native.Mathlib.Omega.{arith}
use Rattle.records.specs.Records.{uses}
use Rattle.traffic.specs.Traffic.{in_column}
use Rattle.report.proofs.Figures.{Putting, putting-as, putting-none, putting-same, putting-room, putting-more, putting-all}
use borrow.Author.Rules.{rules}
use Rattle.report.proofs.put_figures.Goals as goal

pub put_figure-requires : goal.put_figure-requires
put_figure-requires c = putting-room c.loop-v.invariant.0 (omega arith)

pub loop-v-preserved : goal.loop-v-preserved
loop-v-preserved c =
    (putting-as (omega arith) (putting-more c.loop-v.invariant.0 (omega arith) c.sum.ensures c.put_figure.ensures.behind), c.put_figure.ensures.same ∙ c.loop-v.invariant.1)

pub returns : goal.returns
returns c =
    record {
      written = record { same = c.loop-v.invariant.1; behind = putting-all c.loop-v.invariant.0 (omega arith) };
      upper_bound = omega (arith, c.loop-v.invariant.0.most);
    }

pub loop-v-init : goal.loop-v-init
loop-v-init c = (putting-as (omega arith) (putting-none c.requires.room), refl)
