-- The open line that an image holds, by its fields, and that words can hold it and number 255 admits it where number 8 does.
-- Assumes nothing.
use mathlib.Core.Path.{◌≡◌, refl}
use mathlib.Core.Bool.{true}
use mathlib.Core.List.{List}
use Prim.Native.Nat.{ℕ}
use native.Mathlib.Omega.{arith}
use lib.Dec.{leb}
use borrow.Author.Tests.{leb-true}
use Rattle.words.proofs.Tests.{both_right, both_true}
use Rattle.machine.specs.Machine.{plain_line, image_line, image_ok, change_ok, open_ok, line_ok}
use Rattle.machine.proofs.Lines.{state-cipher}
use Rattle.card_line.proofs.Lines.{Plain}

module _ (img : List ℕ) where
  pub image-is : {c n : ℕ} {w : List ℕ} → c ≡ (image_line img).cipher → n ≡ (image_line img).n → w ≡ (image_line img).words → plain_line 1 c n w ≡ image_line img
  unfolding image_line
  image-is e f g = λ j. plain_line 1 (e j) (f j) (g j)

  pub image-plain : image_ok (image_line img) ≡ true → Plain (image_line img)
  unfolding image_line
  image-plain h =
      let l = image_line img in
      let k = leb-true l.cipher 6 (both_right (leb 1 l.cipher) (leb l.cipher 6) (state-cipher l.cipher l.n l.words h)) in
      record { mode = omega arith; cipher = omega (arith, k); full = refl; waits-full = refl }

  -- nothing waits on it
  pub image-ok : image_ok (image_line img) ≡ true → line_ok (image_line img) ≡ true
  unfolding line_ok open_ok change_ok image_line
  image-ok h = both_true h refl
