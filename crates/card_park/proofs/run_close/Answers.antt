-- `card_park::run_close` meets its contract: the one test is a row of the table, and what is left idles the line.
-- Assumes nothing.
use Rattle.std.proofs.Common.{true, false, sym, refl}
use borrow.Author.Tests.{eq-eqb, ne_eqb}
use Rattle.command.specs.declared.Refusal.TheVariants.{NotOpen}
use Rattle.command.specs.Decode.{length_of}
use Rattle.machine.specs.Machine.{decided, refuse_if, idle, idle_line}
use Rattle.machine.proofs.Lines.{shown-idle}
use Rattle.card_line.proofs.Lines.{idle-plain}
use Rattle.card_outcome.proofs.Laws.{idle-is, given-true, given-false, given-err, given-put}
use Rattle.card_park.proofs.run_close.Goals as goal

pub returns-then-mode-eq0 : goal.returns-then-mode-eq0
unfolding decided refuse_if length_of
returns-then-mode-eq0 c =
    let ws = c.args.card.now in
    λ a. given-true ws a.text a.out _ _ _ (idle-is ws c.args.i c.mode_at-mode.ensures true (eq-eqb _ _ c.if-mode-eq0.true)) (given-err ws a.text a.out NotOpen)

pub returns : goal.returns
unfolding decided refuse_if length_of
returns c =
    let ws = c.args.card.now in
    λ a. given-false ws a.text a.out _ _ _ (idle-is ws c.args.i c.mode_at-mode.ensures false (ne_eqb _ _ c.if-mode-eq0.false))
    (given-put ws a.text a.out c.requires.0 c.args.i c.requires.1 2 idle idle_line (sym shown-idle) idle-plain c.clear_line.ensures refl)
