-- `card_layout::put_waiting` meets its contract: the part that is lent is the line's, and holds it and nothing else.
-- Assumes nothing.
use mathlib.Core.Path.{ap, ◌∙◌}
use Rattle.machine.specs.Machine.{Line}
use Rattle.card_line.specs.Words.{line_words, with_change}
use Rattle.card_layout.proofs.Cards.{line-part, part_held, part-put}
use Rattle.card_layout.proofs.put_waiting.Goals as goal

pub put_change-requires : goal.put_change-requires
put_change-requires c = record { line_held = part_held c.args.card.now c.args.i c.requires.sound.1 c.requires.sound.0.size c.requires.sound.0.held; state_len = c.requires.state_len }

pub returns : goal.returns
returns c =
    part-put c.args.card.now c.args.i c.requires.sound.1 c.requires.sound.0.size _ _
    (c.put_change.ensures ∙ ap (λ (l : Line). line_words (with_change l c.args.p c.args.state.now)) (line-part c.args.card.now c.args.i c.requires.sound.1 c.requires.sound.0.size))
