-- `sealing_rules::release` meets its contract: nothing is written where the test fails, and where it holds the whole message is.
-- Assumes nothing.
use mathlib.Core.Path.{refl}
use Rattle.sealing_rules.specs.Sealing.{accepted}
use Rattle.sealing_rules.proofs.Rows.{refuse-given, refuse-pass}
use Rattle.sealing_rules.proofs.Outcomes.{answered-by, answered-refused}
use Rattle.sealing_rules.proofs.release.Goals as goal

pub returns-then-not-genuine : goal.returns-then-not-genuine
returns-then-not-genuine c = answered-by (refuse-given 24 _ c.if-not-genuine.true-raw) answered-refused

pub returns : goal.returns
returns c =
    answered-by (refuse-pass 24 (accepted c.args.message.now) c.if-not-genuine.false-raw) (record { code_is = refl; count-is = refl; out-is = c.put.ensures })
