-- `card_keys::key_part` meets its contract: what it hands out is the key in the cipher's own length, not all zero.
-- Assumes nothing.
use Prim.Native.Nat.{ℕ, ◌≤◌}
use mathlib.Core.Path.{◌≡◌, ap, sym, subst, ◌∙◌}
use mathlib.Core.List.{List}
use native.Mathlib.Omega.{arith}
use lib.ListN.{length, take}
use lib.Seq.{length-take-le}
use Rattle.words.specs.Tests.{pick}
use Rattle.card_sizes.specs.Sizes.{key_length}
use Rattle.command.specs.Decode.{number_of}
use Rattle.card_keys.specs.Keys.{is_own, at_of, HandedKey}
use Rattle.ciphers.proofs.Rows.{key_fits}
use Rattle.card_keys.proofs.Spare.{field-full, handed}
use Rattle.card_keys.proofs.key_part.Goals as goal

pub key_check-requires : goal.key_check-requires
key_check-requires c = ap length c.key_field-field.ensures ∙ field-full (at_of c.args.place) (pick (is_own c.args.place) c.args.command.now c.args.tray.now) c.requires

pub slice_bounds-result-end : goal.slice_bounds-result-end
slice_bounds-result-end c =
    let full : length c.key_field-field.result.now ≡ key_length = ap length c.key_field-field.ensures ∙ field-full (at_of c.args.place) (pick (is_own c.args.place) c.args.command.now c.args.tray.now) c.requires in
    let fits : c.key_of-k.result ≤ length c.key_field-field.result.now = let f = key_fits (number_of c.args.cipher) in omega (arith, c.key_of-k.ensures, full, f) in
    sym (length-take-le _ c.key_field-field.result.now fits)

pub returns : goal.returns
returns c =
    subst (λ (x : List ℕ). HandedKey (number_of c.args.cipher) x c.args.iv.now (take c.key_of-k.result c.key_field-field.result.now)) c.key_field-field.ensures
    (handed (number_of c.args.cipher) c.key_field-field.result.now c.args.iv.now c.in_ok-key_check.ensures c.key_of-k.ensures)
