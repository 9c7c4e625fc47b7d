-- `traffic::any_unknown` meets its contract: the test is of what each record says.
-- Assumes nothing.
use Rattle.std.proofs.Common.{◌∙◌, ap, rules, tests}
use Rattle.std.proofs.lemmas.Iterator.{YieldsList-from_slice}
use Rattle.std.proofs.lemmas.Iterator.Search.{any_from_yields_List}
use Rattle.records.specs.Records.{said}
use Rattle.traffic.specs.Traffic.{unknown, any_unknown}
use Rattle.traffic.proofs.Judging.{any-said}
use Rattle.traffic.proofs.any_unknown.Goals as goal

pub returns : goal.returns
returns c =
    any_from_yields_List (λ r. unknown (said r)) _ _ _ c.any.ensures.ran (YieldsList-from_slice c.all.result.now cc) (λ x b q k. search (rules, tests))
    ∙ any-said c.all.result.now ∙ ap any_unknown c.all.ensures
