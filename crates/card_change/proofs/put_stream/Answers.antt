-- `card_change::put_stream` meets its contract: at its own position the line begins the stream, and else the change waits.
-- Assumes nothing.
use mathlib.Core.Path.{ap, sym, ◌∙◌}
use Rattle.machine.specs.Calls.{line_on}
use Rattle.card_layout.specs.Words.{card_in, put_line}
use Rattle.card_change.proofs.Changes.{at_once, later}
use Rattle.card_change.proofs.put_stream.Goals as goal

pub returns-then-p-n : goal.returns-then-p-n
returns-then-p-n c =
    c.put_line.ensures
    ∙ ap (put_line c.args.card.now c.args.i)
    (at_once ((line_on (card_in c.args.card.now) c.args.i)) c.args.p c.args.state.now c.requires.i_value.0 (c.number_of.ensures ∙ sym c.requires.i_value.1) (c.if-p-n.true ∙ c.position_at-n.ensures))

pub returns : goal.returns
returns c =
    c.put_waiting.ensures ∙ ap (put_line c.args.card.now c.args.i) (later ((line_on (card_in c.args.card.now) c.args.i)) c.args.p c.args.state.now (λ z. c.if-p-n.false (z ∙ sym c.position_at-n.ensures)))
