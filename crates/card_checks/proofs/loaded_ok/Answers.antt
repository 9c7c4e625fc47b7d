-- `card_checks::loaded_ok` meets its contract: the answers follow the tests in their order.
-- Assumes nothing.
use mathlib.Core.Path.{ap, ap₂, sym, ◌∙◌}
use Rattle.ciphers.specs.Table.{is_cipher}
use Rattle.ciphers.specs.Kept.{keeps_ok}
use Rattle.ciphers.proofs.Numbers.{read_none, read_is}
use Rattle.card_line.proofs.Lines.{state-slice, line-held}
use Rattle.card_checks.proofs.Changes.{none-low}
use Rattle.card_checks.proofs.Loaded.{no-cipher, has-moved, has-change, by-kept}
use Rattle.card_checks.proofs.Walks.{no-more}
use Rattle.card_checks.proofs.loaded_ok.Goals as goal

pub returns-in_default : goal.returns-in_default
returns-in_default c =
    (no-cipher c.args.line.now c.requires.0 c.requires.1 (ap is_cipher (sym c.cipher_of-named.ensures) ∙ read_none _ (sym c.try_from.ensures ∙ c.in_default.is)), no-more)

pub returns-then-n-ne0 : goal.returns-then-n-ne0
returns-then-n-ne0 c =
    (has-moved c.args.line.now c.requires.0 c.requires.1 (λ z. c.if-n-ne0.true (c.position_of-n.ensures.0 ∙ z)), no-more)

pub returns-then-not-quiet : goal.returns-then-not-quiet
returns-then-not-quiet c =
    (has-change c.args.line.now c.requires.0 c.requires.1 (sym c.words_zero-quiet.ensures ∙ c.if-not-quiet.true), no-more)

pub returns : goal.returns
returns c =
    let i = read_is _ (sym c.try_from.ensures ∙ c.in-Ok.is) in
    let z = sym c.words_zero-quiet.ensures ∙ c.if-not-quiet.false in
    let ok =
    by-kept c.args.line.now c.requires.0 c.requires.1 (ap is_cipher (sym c.cipher_of-named.ensures) ∙ i.1) (sym c.position_of-n.ensures.0 ∙ c.if-n-ne0.false) z
    (c.keeps.ensures ∙ ap₂ keeps_ok (sym i.0 ∙ c.cipher_of-named.ensures) (state-slice c.args.line.now c.requires.0)) in
    (ok, λ y. line-held c.args.line.now c.requires.0 c.position_of-n.ensures.1 (none-low c.args.line.now c.requires.0 z) (sym ok ∙ y))
