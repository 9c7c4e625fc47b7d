-- The first bytes of a file: a part as long as the file or as what is read, whichever is less, is what is read of it.
-- Assumes nothing.
use mathlib.Core.Path.{◌≡◌, refl, ap, sym, ◌∙◌}
use mathlib.Core.Bool.{Bool, true, false}
use mathlib.Core.List.{List}
use Prim.Native.Nat.{ℕ, min}
use native.Mathlib.Nat.{min-le_left, min-eq_left, min-eq_right}
use native.Mathlib.Omega.{arith}
use lib.Dec.{leb}
use lib.ListN.{length, take}
use lib.Seq.{length-take-le, take-length, take_all}
use borrow.Author.Tests.{leb-true, leb-false}
use Rattle.session.specs.Session.{read_length}

pub first-length : (s : List ℕ) (e : ℕ) → e ≡ min (length s) read_length → e ≡ length (take e s)
first-length s e h = sym (length-take-le e s (omega (arith, h, min-le_left (length s) read_length)))

pub first-is : (s : List ℕ) (e : ℕ) → e ≡ min (length s) read_length → take e s ≡ take read_length s
first-is s e h = by (leb (length s) read_length) refl
  where
    by : (b : Bool) → leb (length s) read_length ≡ b → take e s ≡ take read_length s
    by true q =
        let m = leb-true (length s) read_length q in
        ap (λ (k : ℕ). take k s) (h ∙ min-eq_left m) ∙ take-length s ∙ sym (take_all read_length s m)
    by false q = ap (λ (k : ℕ). take k s) (h ∙ min-eq_right (let m = leb-false (length s) read_length q in omega arith))
