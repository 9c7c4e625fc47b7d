-- `card_change::change_line` meets its contract: where no key is handed out the command is refused, else the line is to change to S(0) of the key and the IV.
-- Assumes nothing.
use Rattle.std.proofs.Common.{◌≡◌, refl, ap, ◌∙◌, ℕ, List, length, false, arith, rules}
use lib.Seq.{length-take-le}
use Rattle.card_sizes.specs.Sizes.{change_length}
use Rattle.ciphers.specs.Table.{cipher_at}
use Rattle.command.specs.Decode.{number_of}
use Rattle.machine.specs.Machine.{based, shown, changed, iv_for, stream_of}
use Rattle.machine.specs.Calls.{line_on}
use Rattle.card_layout.specs.Words.{card_in}
use Rattle.card_keys.specs.Keys.{key_bytes}
use Rattle.ciphers.proofs.Rows.{key_fits}
use Rattle.card_keys.proofs.Spare.{field-full}
use Rattle.card_outcome.proofs.Laws.{handed-on, sound-plain, given-change}
use Rattle.card_outcome.proofs.Keyed.{given-unkeyed, given-key}
use Rattle.card_change.proofs.Changes.{changed-plain}
use Rattle.card_change.proofs.change_line.Goals as goal

pub returns-in_err-key : goal.returns-in_err-key
returns-in_err-key c =
    λ t o. given-unkeyed c.args.card.now t o _ (number_of c.args.cipher) (key_bytes false c.args.at c.args.tray.now c.args.command.now) c.args.iv.now c.in_err-key.ensures (handed-on c.from_residual.result c.from_residual.ensures)

pub first_state-state-requires : goal.first_state-state-requires
first_state-state-requires c =
    let f = key_fits (number_of c.args.cipher) in
    let g = field-full c.args.at c.args.tray.now c.requires.key_length_in_bounds in
    record {
      key_len = ap length c.in_ok-key.ensures.own ∙ length-take-le _ (key_bytes false c.args.at c.args.tray.now c.args.command.now) (omega (arith, f, g));
      iv_len = c.requires.iv_len;
    }

pub returns : goal.returns
returns c =
    let n = number_of c.args.cipher in
    let key = key_bytes false c.args.at c.args.tray.now c.args.command.now in
    let line = line_on (card_in c.args.card.now) c.args.i in
    let words : c.first_state-state.result ≡ stream_of n key c.args.iv.now =
    c.first_state-state.ensures ∙ ap (λ (k : List ℕ). (cipher_at n).init k (iv_for n c.args.iv.now)) c.in_ok-key.ensures.own in
    λ t o. given-key c.args.card.now t o _ n key c.args.iv.now c.in_ok-key.ensures.passed
    (given-change c.args.card.now t o c.requires.sound.0 c.args.i c.requires.sound.1 c.args.p (stream_of n key c.args.iv.now) change_length (shown (changed (based line) c.args.p c.first_state-state.result))
    (ap (λ (x : List ℕ). shown (changed (based line) c.args.p x)) words)
    (changed-plain line c.args.p c.first_state-state.result (sound-plain c.args.card.now c.requires.sound.0 c.args.i c.requires.sound.1) (search rules)) c.put_stream.ensures refl)
