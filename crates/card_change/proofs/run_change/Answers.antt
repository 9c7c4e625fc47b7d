-- `card_change::run_change` meets its contract: its rows refuse, and the key is the part of the tray that its number names, judged by the line's cipher.
-- Assumes nothing.
use Rattle.std.proofs.Common.{◌≡◌, ap, ap₂, sym, ◌∙◌, ℕ, ◌*◌, length, take, drop, length-drop, true, false, arith}
use mathlib.Core.Bool.{true≢false}
use lib.Seq.{length-take-le}
use Rattle.card_sizes.specs.Sizes.{key_length, iv_length, change_iv, change_length}
use Rattle.ciphers.specs.Table.{is_cipher}
use Rattle.ciphers.proofs.Numbers.{read_none, read_is}
use Rattle.command.specs.Decode.{number_of}
use Rattle.command.specs.Rows.{code_of}
use Rattle.command.proofs.Rows.{code-passed}
use Rattle.card_rows.specs.Rows.{change_rows, tray_rows}
use Rattle.card_rows.proofs.Codes.{change-passed, tray-passed}
use Rattle.machine.specs.Machine.{Line}
use Rattle.machine.specs.Calls.{line_on}
use Rattle.machine.proofs.Lines.{open-state, state-cipher}
use Rattle.card_layout.specs.Words.{card_in}
use Rattle.card_keys.specs.Keys.{key_bytes, change_with}
use Rattle.card_outcome.proofs.Laws.{handed-on, by-rows, sound-ok, open-ok-of, given-check, given-passed}
use Rattle.card_change.proofs.Changes.{change-decided}
use Rattle.card_change.proofs.run_change.Goals as goal

-- the rows, by what is read of the line
by-line : (l : Line) (p : ℕ) {k m n d : ℕ} → k ≡ code_of (change_rows m n d p) → m ≡ l.mode → n ≡ l.n → d ≡ l.due → k ≡ code_of (change_rows l.mode l.n l.due p)
by-line l p {n = n} {d = d} e a b f = e ∙ ap (λ (x : ℕ). code_of (change_rows x n d p)) a ∙ ap₂ (λ (x y : ℕ). code_of (change_rows l.mode x y p)) b f

pub returns-in_err-change_check : goal.returns-in_err-change_check
returns-in_err-change_check c =
    let ws = c.args.card.now in
    let l = line_on (card_in ws) c.args.i in
    λ t o. by-rows ws _ _ (change-decided ws c.args.i c.args.number c.args.p c.args.command.now c.args.tray.now t o)
    (given-check ws t o (change_rows l.mode l.n l.due c.args.p) _ (by-line l c.args.p c.in_err-change_check.ensures c.mode_at-mode.ensures c.position_at-n.ensures c.due_at-due.ensures) (handed-on c.from_residual.result c.from_residual.ensures))

pub returns-in_err-tray_check : goal.returns-in_err-tray_check
returns-in_err-tray_check c =
    let ws = c.args.card.now in
    let l = line_on (card_in ws) c.args.i in
    let rows = change_rows l.mode l.n l.due c.args.p in
    let passed = code-passed rows tt (sym (by-line l c.args.p c.in_ok-change_check.ensures c.mode_at-mode.ensures c.position_at-n.ensures c.due_at-due.ensures)) in
    let e = change_with c.args.i c.args.p change_length l.cipher (key_bytes false (key_length * c.args.number) c.args.tray.now c.args.command.now) (take iv_length (drop change_iv c.args.command.now)) in
    λ t o. by-rows ws _ _ (change-decided ws c.args.i c.args.number c.args.p c.args.command.now c.args.tray.now t o)
    (given-passed ws t o rows _ passed (given-check ws t o (tray_rows (length c.args.tray.now) c.args.number) e c.in_err-tray_check.ensures (handed-on c.from_residual-in_err-tray_check.result c.from_residual-in_err-tray_check.ensures)))

pub returns-in_default : goal.returns-in_default
returns-in_default c =
    let l = line_on (card_in c.args.card.now) c.args.i in
    let up = (change-passed l.mode l.n l.due c.args.p (sym (by-line l c.args.p c.in_ok-change_check.ensures c.mode_at-mode.ensures c.position_at-n.ensures c.due_at-due.ensures))).open-line in
    let o = open-ok-of l (sound-ok c.args.card.now c.requires.sound.0 c.args.i c.requires.sound.1) up in
    let yes = ap is_cipher c.cipher_at-named.ensures ∙ state-cipher l.cipher l.n l.words (open-state l o) in
    absurd (true≢false (sym yes ∙ read_none _ (sym c.try_from.ensures ∙ c.in_default.is)))

pub change_line-requires : goal.change_line-requires
change_line-requires c =
    let l = line_on (card_in c.args.card.now) c.args.i in
    let up = (change-passed l.mode l.n l.due c.args.p (sym (by-line l c.args.p c.in_ok-change_check.ensures c.mode_at-mode.ensures c.position_at-n.ensures c.due_at-due.ensures))).open-line in
    record {
      sound = c.requires.sound;
      i_value = (up, sym c.cipher_at-named.ensures ∙ (read_is _ (sym c.try_from.ensures ∙ c.in-Ok.is)).0);
      key_length_in_bounds = tray-passed (length c.args.tray.now) c.args.number (sym c.in_ok-tray_check.ensures);
      iv_len = length-take-le iv_length (drop change_iv c.args.command.now) (omega (arith, length-drop change_iv c.args.command.now, c.requires.change_length_in_bounds));
    }

pub returns : goal.returns
returns c =
    let ws = c.args.card.now in
    let l = line_on (card_in ws) c.args.i in
    let rows = change_rows l.mode l.n l.due c.args.p in
    let passed = code-passed rows tt (sym (by-line l c.args.p c.in_ok-change_check.ensures c.mode_at-mode.ensures c.position_at-n.ensures c.due_at-due.ensures)) in
    let keys = tray_rows (length c.args.tray.now) c.args.number in
    let e = λ (x : ℕ). change_with c.args.i c.args.p change_length x (key_bytes false (key_length * c.args.number) c.args.tray.now c.args.command.now) (take iv_length (drop change_iv c.args.command.now)) in
    let named : l.cipher ≡ number_of c.in-Ok.cipher = sym c.cipher_at-named.ensures ∙ (read_is _ (sym c.try_from.ensures ∙ c.in-Ok.is)).0 in
    λ t o. by-rows ws _ _ (change-decided ws c.args.i c.args.number c.args.p c.args.command.now c.args.tray.now t o)
    (given-passed ws t o rows _ passed (given-passed ws t o keys (e l.cipher) (code-passed keys tt (sym c.in_ok-tray_check.ensures)) (by-rows ws _ _ (ap e named) (c.change_line.ensures t o))))
