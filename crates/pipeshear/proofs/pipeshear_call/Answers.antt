-- `pipeshear::pipeshear_call` meets its contract: lengths that are wrong, and what the engine gives, with its counts stored.
-- Assumes nothing.
use Rattle.std.proofs.Common.{sym, subst}
use Rattle.words.specs.Lists.{Byte}
use Rattle.machine.specs.Calls.{CallBytes}
use Rattle.card_outcome.specs.declared.Outcome.{Outcome}
use Rattle.card_outcome.specs.Leaves.{call_of, CallLeaves}
use Rattle.words.proofs.Ranges.{all_known}
use Rattle.pipeshear.proofs.Results.{wrong-counts, wrong-card, ran}
use Rattle.pipeshear.proofs.pipeshear_call.Goals as goal

pub returns-then-counts-ne3 : goal.returns-then-counts-ne3
returns-then-counts-ne3 c =
    let bytes : CallBytes (call_of c.args.command.now c.args.tray.now c.args.«data».now c.args.out.now) = record { command = all_known Byte c.args.command.now (λ i. (c.type_inv.command i).fits); tray = all_known Byte c.args.tray.now (λ i. (c.type_inv.tray i).fits) } in
    wrong-counts c.args.card.now (call_of c.args.command.now c.args.tray.now c.args.«data».now c.args.out.now) c.args.counts.now bytes c.if-counts-ne3.true

pub returns-then-card-ne-CARD : goal.returns-then-card-ne-CARD
returns-then-card-ne-CARD c =
    let bytes : CallBytes (call_of c.args.command.now c.args.tray.now c.args.«data».now c.args.out.now) = record { command = all_known Byte c.args.command.now (λ i. (c.type_inv.command i).fits); tray = all_known Byte c.args.tray.now (λ i. (c.type_inv.tray i).fits) } in
    wrong-card c.args.card.now (call_of c.args.command.now c.args.tray.now c.args.«data».now c.args.out.now) c.args.counts.now bytes c.if-counts-ne3.false c.if-card-ne-CARD.true c.put_counts.ensures

pub returns : goal.returns
returns c =
    let a = call_of c.args.command.now c.args.tray.now c.args.«data».now c.args.out.now in
    let bytes : CallBytes a = record { command = all_known Byte c.args.command.now (λ i. (c.type_inv.command i).fits); tray = all_known Byte c.args.tray.now (λ i. (c.type_inv.tray i).fits) } in
    let left = subst (λ (r : Outcome). CallLeaves c.args.card.now a r c.run.new.card c.run.new.out) (sym c.from-r.ensures) c.run.ensures in
    ran c.args.card.now a c.args.counts.now bytes c.if-counts-ne3.false c.if-card-ne-CARD.false left c.run.auto.card c.put_counts-2.ensures
