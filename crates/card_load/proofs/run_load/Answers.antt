-- `card_load::run_load` meets its contract: the tests are the rows of the table in their order, and what is left is the load of the line.
-- Assumes nothing.
use Rattle.std.proofs.Common.{ap, sym, not, ◌*◌, length, take, drop, rules}
use borrow.Author.Tests.{eq-eqb, ne_eqb}
use Rattle.card_sizes.specs.Sizes.{key_length}
use Rattle.command.specs.declared.Refusal.TheVariants.{NotIdle}
use Rattle.command.specs.Decode.{number_of}
use Rattle.command.proofs.Rows.{code-passed}
use Rattle.card_rows.specs.Rows.{tray_rows}
use Rattle.card_rows.proofs.Codes.{tray-passed}
use Rattle.card_keys.specs.Keys.{load_with}
use Rattle.card_outcome.proofs.Laws.{handed-on, by-rows, given-true, given-false, given-err, given-check, given-passed}
use Rattle.card_load.proofs.Rows.{load-decided}
use Rattle.card_load.proofs.run_load.Goals as goal

pub returns-then-mode-ne0 : goal.returns-then-mode-ne0
returns-then-mode-ne0 c =
    let ws = c.args.card.now in
    λ m t o. by-rows ws _ _ (load-decided ws c.args.i c.args.cipher c.args.number m c.args.tray.now t o c.mode_at-mode.ensures)
    (given-true ws t o _ 5 _ (ap not (ne_eqb _ 0 c.if-mode-ne0.true)) (given-err ws t o NotIdle))

pub returns-in_err-tray_check : goal.returns-in_err-tray_check
returns-in_err-tray_check c =
    let ws = c.args.card.now in
    let e = load_with c.args.i (number_of c.args.cipher) (take key_length (drop (key_length * c.args.number) c.args.tray.now)) in
    λ m t o. by-rows ws _ _ (load-decided ws c.args.i c.args.cipher c.args.number m c.args.tray.now t o c.mode_at-mode.ensures)
    (given-false ws t o _ 5 _ (ap not (eq-eqb _ 0 c.if-mode-ne0.false)) (given-check ws t o (tray_rows (length c.args.tray.now) c.args.number) e c.in_err-tray_check.ensures (handed-on c.from_residual.result c.from_residual.ensures)))

pub load_line-requires : goal.load_line-requires
load_line-requires c = let h = tray-passed (length c.args.tray.now) c.args.number (sym c.in_ok-tray_check.ensures) in search rules

pub returns : goal.returns
returns c =
    let ws = c.args.card.now in
    let rows = tray_rows (length c.args.tray.now) c.args.number in
    let e = load_with c.args.i (number_of c.args.cipher) (take key_length (drop (key_length * c.args.number) c.args.tray.now)) in
    λ m t o. by-rows ws _ _ (load-decided ws c.args.i c.args.cipher c.args.number m c.args.tray.now t o c.mode_at-mode.ensures)
    (given-false ws t o _ 5 _ (ap not (eq-eqb _ 0 c.if-mode-ne0.false)) (given-passed ws t o rows e (code-passed rows tt (sym c.in_ok-tray_check.ensures)) (c.load_line.ensures t o)))
