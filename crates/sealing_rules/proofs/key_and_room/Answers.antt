-- `sealing_rules::key_and_room` meets its contract: each test is a row of the checks.
-- Assumes nothing.
use mathlib.Core.Path.{ap, ◌∙◌}
use Rattle.command.specs.Decode.{refusal_of}
use Rattle.sealing_rules.proofs.Rows.{key-refused, no_room, all_right}
use Rattle.command.proofs.Numbers.{refused}
use Rattle.sealing_rules.proofs.Outcomes.{refusal-passed}
use Rattle.sealing_rules.proofs.key_and_room.Goals as goal

pub returns-in_err-key_check : goal.returns-in_err-key_check
returns-in_err-key_check c =
    refusal-passed _ c.from_residual.result c.from_residual.ensures.1
    ∙ key-refused c.args.c c.args.key.now c.args.iv.now c.args.need c.args.room c.in_err-key_check.ensures (refused c.in_err-key_check.field-0.0)

pub returns-then-room-need : goal.returns-then-room-need
returns-then-room-need c = no_room c.args.c c.args.key.now c.args.iv.now c.args.need c.args.room c.key_check.ensures (ap refusal_of c.in_ok-key_check.was) c.if-room-need.true

pub returns : goal.returns
returns c = all_right c.args.c c.args.key.now c.args.iv.now c.args.need c.args.room c.key_check.ensures (ap refusal_of c.in_ok-key_check.was) c.if-room-need.false
