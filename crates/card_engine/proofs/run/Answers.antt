-- `card_engine::run` meets its contract: a damaged card, a command that is refused, and a command that is performed give the card's step.
-- Assumes nothing.
use Rattle.std.proofs.Common.{sym, ◌∙◌, refl, Ok, Err}
use Rattle.card_outcome.specs.Leaves.{call_of}
use Rattle.card_outcome.proofs.Laws.{given-err}
use Rattle.card_outcome.proofs.Entry.{answers, damaged}
use Rattle.card_engine.proofs.run.Goals as goal

pub returns-then-not-card_ok : goal.returns-then-not-card_ok
returns-then-not-card_ok c =
    damaged c.args.card.now (call_of c.args.command.now c.args.tray.now c.args.«data».now c.args.out.now) (sym c.card_ok.ensures.0 ∙ c.if-not-card_ok.true) refl

pub returns-in_default : goal.returns-in_default
returns-in_default c =
    let a = call_of c.args.command.now c.args.tray.now c.args.«data».now c.args.out.now in
    answers c.args.card.now a (c.card_ok.ensures.1 (c.if-not-card_ok.false)) (Err c.unwrap_err.result) (sym c.decode-decoded.ensures ∙ c.unwrap_err.ensures)
    (given-err c.args.card.now a.text a.out c.unwrap_err.result)

pub perform-requires : goal.perform-requires
perform-requires c = (c.card_ok.ensures.1 (c.if-not-card_ok.false), sym c.decode-decoded.ensures ∙ c.in-Ok.is)

pub returns : goal.returns
returns c =
    let a = call_of c.args.command.now c.args.tray.now c.args.«data».now c.args.out.now in
    answers c.args.card.now a (c.card_ok.ensures.1 (c.if-not-card_ok.false)) (Ok c.in-Ok.k) (sym c.decode-decoded.ensures ∙ c.in-Ok.is) c.perform.ensures
