-- `card_park::run_resume` meets its contract: each test is a row of the table, and what is left puts the image's line in its place and takes its number up.
-- Assumes nothing.
use Rattle.std.proofs.Common.{◌≡◌, refl, ap, ap₂, sym, ◌∙◌, Bool, true, false, not, ℕ, List}
use lib.Dec.{ltb}
use borrow.Author.Tests.{eq-eqb, ne_eqb, lt-ltb, le-ltb}
use Rattle.card_sizes.specs.Sizes.{line_count, resume_length}
use Rattle.words.specs.Tests.{both}
use Rattle.words.proofs.Tests.{both_true, both_false}
use Rattle.command.specs.declared.Refusal.TheVariants.{NotIdle, InvalidImage, ImageNotHeld}
use Rattle.command.specs.Decode.{length_of}
use Rattle.machine.specs.Machine.{decided, refuse_if, image_line, image_from, image_number, image_in, image_ok, from_ok}
use Rattle.machine.specs.Parks.{holds, taken}
use Rattle.machine.proofs.Lines.{shown-based}
use Rattle.card_layout.specs.Words.{card_in, put_line, put_parks}
use Rattle.card_outcome.specs.Leaves.{public_of}
use Rattle.card_outcome.proofs.Laws.{busy-is, held_by, given-true, given-false, given-err, given-resume}
use Rattle.card_park.proofs.Images.{image-is, image-plain, image-ok}
use Rattle.card_park.proofs.run_resume.Goals as goal

-- whether the parking line's number is one of a line, by the number that is read
from-is : (img : List ℕ) {n : ℕ} {b : Bool} → n ≡ image_from img → ltb n line_count ≡ b → from_ok img ≡ b
from-is img e h = ap (λ (x : ℕ). ltb x line_count) (sym e) ∙ h

-- whether the card holds its number
held-is : (ws img : List ℕ) {n k : ℕ} {b : Bool} → n ≡ image_from img → k ≡ image_number img → b ≡ holds (card_in ws).parks n k → not (holds (public_of ws).parks (image_from img) (image_number img)) ≡ not b
held-is ws img e f h = ap not (held_by ws (image_from img) (image_number img) ∙ ap₂ (holds (card_in ws).parks) (sym e) (sym f) ∙ sym h)

pub returns-then-mode-ne0 : goal.returns-then-mode-ne0
unfolding decided refuse_if length_of
returns-then-mode-ne0 c =
    let ws = c.args.card.now in
    λ _ t o. given-true ws t o _ _ _ (busy-is ws c.args.i c.mode_at-mode.ensures false (ne_eqb _ _ c.if-mode-ne0.true)) (given-err ws t o NotIdle)

pub returns-then-not-open_with : goal.returns-then-not-open_with
unfolding decided refuse_if length_of
returns-then-not-open_with c =
    let ws = c.args.card.now in
    let img = image_in c.args.command.now in
    let line = image-is img c.cipher_in-cipher.ensures c.position_in-n.ensures c.words_in-state.ensures in
    let no : image_ok (image_line img) ≡ false = sym (ap image_ok line) ∙ sym c.open_with.ensures ∙ c.if-not-open_with.true in
    λ _ t o. given-false ws t o _ _ _ (busy-is ws c.args.i c.mode_at-mode.ensures true (eq-eqb _ _ c.if-mode-ne0.false))
    (given-true ws t o _ _ _ (ap (λ (b : Bool). not (both b (from_ok img))) no) (given-err ws t o InvalidImage))

pub returns-then-from-ge-LINES : goal.returns-then-from-ge-LINES
unfolding decided refuse_if length_of
returns-then-from-ge-LINES c =
    let ws = c.args.card.now in
    let img = image_in c.args.command.now in
    let no : both (image_ok (image_line img)) (from_ok img) ≡ false = both_false (image_ok (image_line img)) (from_ok img) (from-is img c.from_in-from.ensures (le-ltb _ _ c.if-from-ge-LINES.true)) in
    λ _ t o. given-false ws t o _ _ _ (busy-is ws c.args.i c.mode_at-mode.ensures true (eq-eqb _ _ c.if-mode-ne0.false))
    (given-true ws t o _ _ _ (ap not no) (given-err ws t o InvalidImage))

pub returns-then-not-is_held : goal.returns-then-not-is_held
unfolding decided refuse_if length_of
returns-then-not-is_held c =
    let ws = c.args.card.now in
    let img = image_in c.args.command.now in
    let line = image-is img c.cipher_in-cipher.ensures c.position_in-n.ensures c.words_in-state.ensures in
    let ok : image_ok (image_line img) ≡ true = sym (ap image_ok line) ∙ sym c.open_with.ensures ∙ c.if-not-open_with.false in
    let yes = both_true ok (from-is img c.from_in-from.ensures (lt-ltb _ _ c.if-from-ge-LINES.false)) in
    λ _ t o. given-false ws t o _ _ _ (busy-is ws c.args.i c.mode_at-mode.ensures true (eq-eqb _ _ c.if-mode-ne0.false))
    (given-false ws t o _ _ _ (ap not yes)
    (given-true ws t o _ _ _ (held-is ws img c.from_in-from.ensures c.number_in-number.ensures c.is_held.ensures ∙ ap not c.if-not-is_held.true) (given-err ws t o ImageNotHeld)))

pub returns : goal.returns
unfolding decided refuse_if length_of
returns c =
    let ws = c.args.card.now in
    let img = image_in c.args.command.now in
    let line = image-is img c.cipher_in-cipher.ensures c.position_in-n.ensures c.words_in-state.ensures in
    let ok : image_ok (image_line img) ≡ true = sym (ap image_ok line) ∙ sym c.open_with.ensures ∙ c.if-not-open_with.false in
    let yes = both_true ok (from-is img c.from_in-from.ensures (lt-ltb _ _ c.if-from-ge-LINES.false)) in
    let put = c.put_line.ensures ∙ ap (put_line ws c.args.i) line in
    let next = c.take_up.ensures ∙ ap₂ (λ (x : List ℕ) (k : ℕ). put_parks x (taken (card_in x).parks k)) put c.from_in-from.ensures in
    λ _ t o. given-false ws t o _ _ _ (busy-is ws c.args.i c.mode_at-mode.ensures true (eq-eqb _ _ c.if-mode-ne0.false))
    (given-false ws t o _ _ _ (ap not yes)
    (given-false ws t o _ _ _ (held-is ws img c.from_in-from.ensures c.number_in-number.ensures c.is_held.ensures ∙ ap not c.if-not-is_held.false)
    (given-resume ws t o c.requires.sound.0 c.args.i c.requires.sound.1 (image_from img) resume_length _ (image_line img) (sym (shown-based (image_line img))) (image-plain img ok) (image-ok img ok) next refl)))
