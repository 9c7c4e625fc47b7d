-- `card_load::started` meets its contract: the line that is lent has what it keeps, which 255 has let pass.
-- Assumes nothing.
use Rattle.std.proofs.Common.{ap, ap₂, sym, ◌∙◌, ℕ, List}
use Rattle.ciphers.specs.Kept.{start_of, keeps_ok}
use Rattle.command.specs.Decode.{number_of}
use Rattle.machine.specs.Machine.{Line, iv_for}
use Rattle.machine.specs.Calls.{line_on}
use Rattle.card_line.proofs.Lines.{state-slice, state-full}
use Rattle.card_layout.specs.Words.{card_in}
use Rattle.card_outcome.proofs.Laws.{sound-ok, loaded-ok-of}
use Rattle.card_load.proofs.Rows.{loaded-keeps}
use Rattle.card_load.proofs.started.Goals as goal

pub start-requires : goal.start-requires
start-requires c =
    let l = line_on (card_in c.args.card.now) c.args.i in
    let ok = loaded-ok-of l (sound-ok c.args.card.now c.requires.sound.0 c.args.i c.requires.sound.1) c.requires.i_value.0 in
    let ws = c.line_of-line.result.now in
    let n = c.line_of-line.ensures.len in
    let kept = state-slice ws n ∙ ap (λ (l : Line). l.words) c.line_of-line.ensures.line in
    record { kept_len = (state-full ws n, ap₂ keeps_ok (sym c.requires.i_value.1) kept ∙ loaded-keeps l ok); iv_len = c.requires.iv_len }

pub returns : goal.returns
returns c =
    let kept = state-slice c.line_of-line.result.now c.line_of-line.ensures.len ∙ ap (λ (l : Line). l.words) c.line_of-line.ensures.line in
    c.start.ensures ∙ ap (λ (w : List ℕ). start_of (number_of c.args.cipher) w (iv_for (number_of c.args.cipher) c.args.iv.now)) kept
