-- `card_open::run_own` meets its contract: the one test is a row of the table, and the key is the part of the command.
-- Assumes nothing.
use Rattle.std.proofs.Common.{true, false}
use borrow.Author.Tests.{eq-eqb, ne_eqb}
use Rattle.command.specs.declared.Refusal.TheVariants.{NotIdle}
use Rattle.command.specs.Decode.{length_of}
use Rattle.machine.specs.Machine.{decided, refuse_if}
use Rattle.card_outcome.proofs.Laws.{busy-is, given-true, given-false, given-err}
use Rattle.card_open.proofs.run_own.Goals as goal

pub returns-then-mode-ne0 : goal.returns-then-mode-ne0
unfolding decided refuse_if length_of
returns-then-mode-ne0 c =
    let ws = c.args.card.now in
    λ t o. given-true ws t o _ _ _ (busy-is ws c.args.i c.mode_at-mode.ensures false (ne_eqb _ _ c.if-mode-ne0.true)) (given-err ws t o NotIdle)

pub returns : goal.returns
unfolding decided refuse_if length_of
returns c =
    let ws = c.args.card.now in
    λ t o. given-false ws t o _ _ _ (busy-is ws c.args.i c.mode_at-mode.ensures true (eq-eqb _ _ c.if-mode-ne0.false)) (c.open_line.ensures t o)
