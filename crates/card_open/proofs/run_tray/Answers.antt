-- `card_open::run_tray` meets its contract: a busy line and the tray's rows refuse, and the key is the part of the tray that its number names.
-- Assumes nothing.
use Rattle.std.proofs.Common.{ap, sym, not, ◌*◌, length, take, drop, rules, false}
use borrow.Author.Tests.{eq-eqb, ne_eqb}
use Rattle.card_sizes.specs.Sizes.{key_length, iv_length, tray_iv, tray_length}
use Rattle.command.specs.declared.Refusal.TheVariants.{NotIdle}
use Rattle.command.specs.Decode.{number_of}
use Rattle.command.proofs.Rows.{code-passed}
use Rattle.card_rows.specs.Rows.{tray_rows}
use Rattle.card_rows.proofs.Codes.{tray-passed}
use Rattle.card_keys.specs.Keys.{key_bytes, open_with}
use Rattle.card_outcome.proofs.Laws.{handed-on, by-rows, given-true, given-false, given-err, given-check, given-passed}
use Rattle.card_open.proofs.Rows.{tray-decided}
use Rattle.card_open.proofs.run_tray.Goals as goal

pub returns-then-mode-ne0 : goal.returns-then-mode-ne0
returns-then-mode-ne0 c =
    let ws = c.args.card.now in
    λ t o. by-rows ws _ _ (tray-decided ws c.args.i c.args.cipher c.args.number c.args.command.now c.args.tray.now t o c.mode_at-mode.ensures)
    (given-true ws t o _ 5 _ (ap not (ne_eqb _ 0 c.if-mode-ne0.true)) (given-err ws t o NotIdle))

pub returns-in_err-tray_check : goal.returns-in_err-tray_check
returns-in_err-tray_check c =
    let ws = c.args.card.now in
    let e = open_with c.args.i tray_length (number_of c.args.cipher) (key_bytes false (key_length * c.args.number) c.args.tray.now c.args.command.now) (take iv_length (drop tray_iv c.args.command.now)) in
    λ t o. by-rows ws _ _ (tray-decided ws c.args.i c.args.cipher c.args.number c.args.command.now c.args.tray.now t o c.mode_at-mode.ensures)
    (given-false ws t o _ 5 _ (ap not (eq-eqb _ 0 c.if-mode-ne0.false)) (given-check ws t o (tray_rows (length c.args.tray.now) c.args.number) e c.in_err-tray_check.ensures (handed-on c.from_residual.result c.from_residual.ensures)))

pub open_line-requires : goal.open_line-requires
open_line-requires c = let h = tray-passed (length c.args.tray.now) c.args.number (sym c.in_ok-tray_check.ensures) in search rules

pub returns : goal.returns
returns c =
    let ws = c.args.card.now in
    let rows = tray_rows (length c.args.tray.now) c.args.number in
    let e = open_with c.args.i tray_length (number_of c.args.cipher) (key_bytes false (key_length * c.args.number) c.args.tray.now c.args.command.now) (take iv_length (drop tray_iv c.args.command.now)) in
    λ t o. by-rows ws _ _ (tray-decided ws c.args.i c.args.cipher c.args.number c.args.command.now c.args.tray.now t o c.mode_at-mode.ensures)
    (given-false ws t o _ 5 _ (ap not (eq-eqb _ 0 c.if-mode-ne0.false)) (given-passed ws t o rows e (code-passed rows tt (sym c.in_ok-tray_check.ensures)) (c.open_line.ensures t o)))
