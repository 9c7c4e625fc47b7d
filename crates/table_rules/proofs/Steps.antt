-- Words put through a function byte by byte, and the affine map as the code works it out.
-- Assumes nothing.
use mathlib.Core.Path.{◌≡◌, ap, ap₂, ◌∙◌}
use mathlib.Core.List.{List}
use Prim.Native.Nat.{ℕ, ◌+◌, ◌*◌, ◌/◌, ◌%◌, ◌^◌}
use native.Mathlib.Omega.{arith}
use lib.ListN.{get_or}
use Rattle.words.specs.Strings.{bytes_of}
use Rattle.words.specs.Lists.{Byte}
use Rattle.words.specs.Word.{◌⊕◌, word, b0, b1, b2, b3}
use Rattle.field.specs.Aes.{affine}

-- what is made of one argument is made of an equal one
pub made_of : (m : ℕ → ℕ) {x y r : ℕ} → x ≡ y → r ≡ m x → r ≡ m y
made_of m e f = f ∙ ap m e

-- each byte of a word put through m
pub joined_by : (m : ℕ → ℕ) (w : ℕ) {b : List ℕ} {x0 x1 x2 x3 r : ℕ} → b ≡ bytes_of w → x0 ≡ m (get_or b 0 0) → x1 ≡ m (get_or b 1 0) → x2 ≡ m (get_or b 2 0) →
    x3 ≡ m (get_or b 3 0) → r ≡ word x0 x1 x2 x3 → r ≡ word (m (b3 w)) (m (b2 w)) (m (b1 w)) (m (b0 w))
unfolding bytes_of
joined_by m w {b} e e0 e1 e2 e3 f = f ∙ rw (e0, e1, e2, e3, e)

-- a byte above a word that is moved down by one
put-above : (k a b c d : ℕ) → Byte k → Byte d → k * 2 ^ 24 % 2 ^ 32 + word a b c d / 2 ^ 8 ≡ word k a b c
put-above k a b c d h i =
    let e : k * 2 ^ 24 % 2 ^ 32 ≡ k * 2 ^ 24 = omega arith in
    let f : word a b c d / 2 ^ 8 ≡ (a * 2 ^ 8 + b) * 2 ^ 8 + c = omega arith in
    rw (e, f) (omega arith)

-- each byte of a word but the last put through m with what i makes of the last, and that above them
pub over_by : (m : ℕ → ℕ → ℕ) (i : ℕ → ℕ) (w : ℕ) {k x s : ℕ} → k ≡ i (b0 w) → x ≡ k → Byte x → Byte (m (b0 w) k) →
    s ≡ word (m (b3 w) k) (m (b2 w) k) (m (b1 w) k) (m (b0 w) k) →
    x * 2 ^ 24 % 2 ^ 32 + s / 2 ^ 8 ≡ word (i (b0 w)) (m (b3 w) (i (b0 w))) (m (b2 w) (i (b0 w))) (m (b1 w) (i (b0 w)))
over_by m i w {k} {x} e f h d g =
    ap (λ (z : ℕ). x * 2 ^ 24 % 2 ^ 32 + z / 2 ^ 8) g
    ∙ put-above x (m (b3 w) k) (m (b2 w) k) (m (b1 w) k) (m (b0 w) k) h d
    ∙ ap₂ (λ (y z : ℕ). word y (m (b3 w) z) (m (b2 w) z) (m (b1 w) z)) (f ∙ e) e

-- digits that leave above come in below
pub mapped-is : (a : ℕ) →
    a ⊕ (a * 2 ^ 1 % 2 ^ 8 + a / 2 ^ 7) ⊕ (a * 2 ^ 2 % 2 ^ 8 + a / 2 ^ 6) ⊕ (a * 2 ^ 3 % 2 ^ 8 + a / 2 ^ 5) ⊕ (a * 2 ^ 4 % 2 ^ 8 + a / 2 ^ 4) ⊕ 0x63 ≡ affine a
mapped-is a =
    let e1 : a / 2 ^ 7 ≡ a * 2 ^ 1 / 2 ^ 8 = omega arith in
    let e2 : a / 2 ^ 6 ≡ a * 2 ^ 2 / 2 ^ 8 = omega arith in
    let e3 : a / 2 ^ 5 ≡ a * 2 ^ 3 / 2 ^ 8 = omega arith in
    let e4 : a / 2 ^ 4 ≡ a * 2 ^ 4 / 2 ^ 8 = omega arith in
    rw (e1, e2, e3, e4)
