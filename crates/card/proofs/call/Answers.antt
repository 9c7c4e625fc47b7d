-- `card::call` meets its contract: the engine runs on a copy of the card's words, which is handed back.
-- Assumes nothing.
use Rattle.std.proofs.Common.{sym, subst}
use Rattle.words.specs.Lists.{Byte}
use Rattle.words.proofs.Ranges.{all_known}
use Rattle.card_outcome.specs.declared.Outcome.{Outcome}
use Rattle.card_outcome.specs.Leaves.{call_of, CallLeaves}
use Rattle.card.proofs.Calls.{promised}
use Rattle.card.proofs.call.Goals as goal

pub returns : goal.returns
returns c =
    let a = call_of c.args.command.now c.args.tray.now c.args.«data».now c.args.out.now in
    promised c.args.card a c.from.result c.run-result.new.card c.run-result.new.out
    (subst (λ (r : Outcome). CallLeaves c.args.card.words a r c.run-result.new.card c.run-result.new.out) (sym c.from.ensures) c.run-result.ensures)
    (record { command = all_known Byte c.args.command.now (λ i. (c.type_inv.command i).fits); tray = all_known Byte c.args.tray.now (λ i. (c.type_inv.tray i).fits) })
