-- `sealing_rules::admit` meets its contract: each test is a row of the checks, in their order.
-- Assumes nothing.
use mathlib.Core.Path.{ap, sym, ◌∙◌}
use borrow.Author.Tests.{not-true, not-false}
use Rattle.command.specs.Decode.{refusal_number, refusal_of}
use Rattle.ciphers.proofs.Numbers.{read_is, read_none, read_unknown}
use Rattle.sealing_rules.specs.Answer.{runs, refuses}
use Rattle.sealing_rules.proofs.Rows.{check-size, check-unknown, check-known}
use Rattle.sealing_rules.proofs.Outcomes.{admits-passed}
use Rattle.sealing_rules.proofs.admit.Goals as goal

pub returns-then-not-ok : goal.returns-then-not-ok
returns-then-not-ok c =
    refuses (check-size c.args.ok c.args.cipher c.args.key.now c.args.iv.now c.args.need c.args.room (not-true _ c.if-not-ok.true-raw))

pub returns-in_err-c : goal.returns-in_err-c
returns-in_err-c c =
    let none = sym c.in_err-c.ensures in
    admits-passed _ c.from_residual.result c.from_residual.ensures.1
    (check-unknown c.args.ok c.args.cipher c.args.key.now c.args.iv.now c.args.need c.args.room (not-false _ c.if-not-ok.false-raw) (read_none c.args.cipher none)
    ∙ ap refusal_number (sym (read_unknown c.args.cipher none)))

pub returns-in_err-key_and_room : goal.returns-in_err-key_and_room
returns-in_err-key_and_room c =
    admits-passed _ c.from_residual-in_err-key_and_room.result c.from_residual-in_err-key_and_room.ensures.1
    (check-known c.args.key.now c.args.iv.now c.args.need c.args.room (not-false _ c.if-not-ok.false-raw) (read_is c.args.cipher (sym c.in_ok-c.ensures)).0 ∙ sym c.in_err-key_and_room.ensures)

pub returns : goal.returns
returns c =
    let is = (read_is c.args.cipher (sym c.in_ok-c.ensures)).0 in
    runs (check-known c.args.key.now c.args.iv.now c.args.need c.args.room (not-false _ c.if-not-ok.false-raw) is ∙ sym c.key_and_room.ensures ∙ ap refusal_of c.in_ok-key_and_room.was) is
