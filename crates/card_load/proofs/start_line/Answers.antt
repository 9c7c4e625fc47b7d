-- `card_load::start_line` meets its contract: a byte of the IV beyond the cipher's length gives 7, else the line is put that is started.
-- Assumes nothing.
use Rattle.std.proofs.Common.{refl, ap, ◌∙◌, ℕ, not, rules}
use lib.Dec.{lit<}
use Rattle.card_sizes.specs.Sizes.{start_length}
use Rattle.command.specs.declared.Refusal.TheVariants.{BeyondLength}
use Rattle.command.specs.Decode.{number_of}
use Rattle.machine.specs.Machine.{plain_line, iv_for}
use Rattle.machine.specs.Calls.{line_on}
use Rattle.card_layout.specs.Words.{card_in, put_line}
use Rattle.card_keys.proofs.Spare.{spare-alone}
use Rattle.card_outcome.proofs.Laws.{given-true, given-false, given-err, given-start}
use Rattle.card_load.proofs.Rows.{started-is, put-plain}
use Rattle.card_load.proofs.start_line.Goals as goal

pub returns-then-not-iv_clear : goal.returns-then-not-iv_clear
returns-then-not-iv_clear c =
    let ws = c.args.card.now in
    let e = spare-alone (number_of c.args.cipher) c.args.iv.now c.iv_clear.ensures in
    λ t o. given-false ws t o _ 19 _ refl (given-true ws t o _ 7 _ (e ∙ ap not c.if-not-iv_clear.true) (given-err ws t o BeyondLength))

pub returns : goal.returns
returns c =
    let ws = c.args.card.now in
    let k = number_of c.args.cipher in
    let e = spare-alone k c.args.iv.now c.iv_clear.ensures in
    let put = c.put_line.ensures ∙ ap (λ (x : ℕ). put_line ws c.args.i (plain_line 1 x 0 c.started-state.result)) c.number_of.ensures in
    λ t o. given-false ws t o _ 19 _ refl
    (given-false ws t o _ 7 _ (e ∙ ap not c.if-not-iv_clear.false)
    (given-start ws t o c.requires.sound.0 c.args.i c.requires.sound.1 (iv_for k c.args.iv.now) start_length _
    (started-is (line_on (card_in ws) c.args.i) k (iv_for k c.args.iv.now) _ c.requires.i_value.1 c.started-state.ensures) (put-plain 1 c.args.cipher _ (lit< tt) (search rules)) put
    refl))
