-- `card_open::open_line` meets its contract: where no key is handed out the command is refused, else the line is S(0) of the key and the IV.
-- Assumes nothing.
use Rattle.std.proofs.Common.{refl, ap, ◌∙◌, ℕ, List, length, arith, rules}
use lib.Seq.{length-take-le}
use Rattle.words.specs.Tests.{pick}
use Rattle.ciphers.specs.Table.{cipher_at}
use Rattle.command.specs.Decode.{number_of}
use Rattle.machine.specs.Machine.{plain_line, iv_for}
use Rattle.card_layout.specs.Words.{put_line}
use Rattle.card_keys.specs.Keys.{is_own, at_of, key_bytes}
use Rattle.ciphers.proofs.Rows.{key_fits}
use Rattle.card_keys.proofs.Spare.{field-full}
use Rattle.card_outcome.proofs.Laws.{handed-on, given-put}
use Rattle.card_outcome.proofs.Keyed.{given-unkeyed, given-key}
use Rattle.card_open.proofs.Rows.{opened-is, opened-plain}
use Rattle.card_open.proofs.open_line.Goals as goal

pub returns-in_err-key : goal.returns-in_err-key
returns-in_err-key c =
    λ t o. given-unkeyed c.args.card.now t o _ (number_of c.args.cipher) (key_bytes (is_own c.args.place) (at_of c.args.place) c.args.tray.now c.args.command.now) c.args.iv.now c.in_err-key.ensures (handed-on c.from_residual.result c.from_residual.ensures)

pub first_state-state-requires : goal.first_state-state-requires
first_state-state-requires c =
    let f = key_fits (number_of c.args.cipher) in
    let g = field-full (at_of c.args.place) (pick (is_own c.args.place) c.args.command.now c.args.tray.now) c.requires.key_in in
    record {
      key_len = ap length c.in_ok-key.ensures.own ∙ length-take-le _ (key_bytes (is_own c.args.place) (at_of c.args.place) c.args.tray.now c.args.command.now) (omega (arith, f, g));
      iv_len = c.requires.iv_len;
    }

pub returns : goal.returns
returns c =
    let n = number_of c.args.cipher in
    let key = key_bytes (is_own c.args.place) (at_of c.args.place) c.args.tray.now c.args.command.now in
    let words = c.first_state-state.ensures ∙ ap (λ (k : List ℕ). (cipher_at n).init k (iv_for n c.args.iv.now)) c.in_ok-key.ensures.own in
    let put = c.put_line.ensures ∙ ap (λ (x : ℕ). put_line c.args.card.now c.args.i (plain_line 1 x 0 c.first_state-state.result)) c.number_of.ensures in
    λ t o. given-key c.args.card.now t o _ n key c.args.iv.now c.in_ok-key.ensures.passed
    (given-put c.args.card.now t o c.requires.sound.0 c.args.i c.requires.sound.1 c.args.used_command _ _ (opened-is n _ _ _ words) (opened-plain c.args.cipher _ (search rules)) put refl)
