-- `card_load::run_start` meets its contract: the first test is 19's row, a loaded line names a cipher, and what is left is the start of the line.
-- Assumes nothing.
use Rattle.std.proofs.Common.{◌≡◌, ap, ap₂, sym, ◌∙◌, ℕ, not, take, drop, length-drop, arith}
use mathlib.Core.Bool.{true≢false}
use lib.Seq.{length-take-le}
use borrow.Author.Tests.{ne_eqb}
use Rattle.card_sizes.specs.Sizes.{iv_length, start_iv}
use Rattle.ciphers.specs.Table.{is_cipher}
use Rattle.ciphers.proofs.Numbers.{read_none, read_is}
use Rattle.command.specs.declared.Refusal.TheVariants.{NotLoaded}
use Rattle.command.specs.Decode.{number_of}
use Rattle.machine.specs.Calls.{line_on}
use Rattle.card_layout.specs.Words.{card_in}
use Rattle.card_keys.specs.Keys.{start_with}
use Rattle.card_outcome.proofs.Laws.{by-rows, sound-ok, loaded-ok-of, given-true, given-err}
use Rattle.card_load.proofs.Rows.{start-decided, loaded-cipher}
use Rattle.card_load.proofs.run_start.Goals as goal

pub returns-then-mode-ne2 : goal.returns-then-mode-ne2
returns-then-mode-ne2 c =
    let ws = c.args.card.now in
    let l = line_on (card_in ws) c.args.i in
    λ y t o. by-rows ws _ _ (start-decided ws c.args.i c.args.command.now y t o ∙ ap (λ (x : ℕ). start_with c.args.i x l.cipher (take iv_length (drop start_iv c.args.command.now))) (sym c.mode_at-mode.ensures))
    (given-true ws t o _ 19 _ (ap not (ne_eqb _ 2 c.if-mode-ne2.true)) (given-err ws t o NotLoaded))

pub returns-in_default : goal.returns-in_default
returns-in_default c =
    let l = line_on (card_in c.args.card.now) c.args.i in
    let yes = ap is_cipher c.cipher_at-named.ensures ∙ loaded-cipher l (loaded-ok-of l (sound-ok c.args.card.now c.requires.sound.0 c.args.i c.requires.sound.1) (sym c.mode_at-mode.ensures ∙ c.if-mode-ne2.false)) in
    absurd (true≢false (sym yes ∙ read_none _ (sym c.try_from.ensures ∙ c.in_default.is)))

pub start_line-requires : goal.start_line-requires
start_line-requires c =
    record {
      sound = c.requires.sound;
      i_value = (sym c.mode_at-mode.ensures ∙ c.if-mode-ne2.false, sym c.cipher_at-named.ensures ∙ (read_is _ (sym c.try_from.ensures ∙ c.in-Ok.is)).0);
      iv_len = length-take-le iv_length (drop start_iv c.args.command.now) (omega (arith, length-drop start_iv c.args.command.now, c.requires.start_length_in_bounds));
    }

pub returns : goal.returns
returns c =
    let ws = c.args.card.now in
    let l = line_on (card_in ws) c.args.i in
    let two : l.mode ≡ 2 = sym c.mode_at-mode.ensures ∙ c.if-mode-ne2.false in
    let named : l.cipher ≡ number_of c.in-Ok.cipher = sym c.cipher_at-named.ensures ∙ (read_is _ (sym c.try_from.ensures ∙ c.in-Ok.is)).0 in
    λ y t o. by-rows ws _ _ (start-decided ws c.args.i c.args.command.now y t o ∙ ap₂ (λ (x z : ℕ). start_with c.args.i x z (take iv_length (drop start_iv c.args.command.now))) two named) (c.start_line.ensures t o)
