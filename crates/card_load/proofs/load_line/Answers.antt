-- `card_load::load_line` meets its contract: without a key the command is refused, with one the line keeps what is kept of it.
-- Assumes nothing.
use Rattle.std.proofs.Common.{refl, ap, ◌∙◌, ℕ, [], length, false, arith, rules}
use lib.Dec.{lit<}
use lib.Seq.{length-take-le}
use Rattle.card_sizes.specs.Sizes.{load_length}
use Rattle.ciphers.specs.Kept.{kept_of}
use Rattle.ciphers.proofs.Rows.{key_fits}
use Rattle.command.specs.Decode.{number_of}
use Rattle.machine.specs.Machine.{plain_line}
use Rattle.card_layout.specs.Words.{put_line}
use Rattle.card_keys.specs.Keys.{key_bytes}
use Rattle.card_keys.proofs.Spare.{field-full}
use Rattle.card_outcome.proofs.Laws.{handed-on, given-put}
use Rattle.card_outcome.proofs.Keyed.{given-unkeyed, given-key}
use Rattle.card_load.proofs.Rows.{loaded-is, put-plain}
use Rattle.card_load.proofs.load_line.Goals as goal

pub returns-in_err-key : goal.returns-in_err-key
returns-in_err-key c =
    λ t o. given-unkeyed c.args.card.now t o _ (number_of c.args.cipher) (key_bytes false c.args.at c.args.tray.now c.args.tray.now) [] c.in_err-key.ensures (handed-on c.from_residual.result c.from_residual.ensures)

pub keep-kept-requires : goal.keep-kept-requires
keep-kept-requires c =
    let f = key_fits (number_of c.args.cipher) in
    let g = field-full c.args.at c.args.tray.now c.requires.key_length_in_bounds in
    ap length c.in_ok-key.ensures.own ∙ length-take-le _ (key_bytes false c.args.at c.args.tray.now c.args.tray.now) (omega (arith, f, g))

pub returns : goal.returns
returns c =
    let n = number_of c.args.cipher in
    let key = key_bytes false c.args.at c.args.tray.now c.args.tray.now in
    let words = c.keep-kept.ensures ∙ ap (kept_of n) c.in_ok-key.ensures.own in
    let put = c.put_line.ensures ∙ ap (λ (x : ℕ). put_line c.args.card.now c.args.i (plain_line 2 x 0 c.keep-kept.result)) c.number_of.ensures in
    λ t o. given-key c.args.card.now t o _ n key [] c.in_ok-key.ensures.passed
    (given-put c.args.card.now t o c.requires.sound.0 c.args.i c.requires.sound.1 load_length _ _ (loaded-is n _ _ words) (put-plain 2 c.args.cipher _ (lit< tt) (search rules)) put refl)
