-- A step in its parts: `moved` with what F gives is the next state. A turn without b needs F once, since a block of zeros added to a1 leaves it as it is.
-- Assumes nothing.
use mathlib.Core.Path.{◌≡◌, ap, sym, ◌∙◌}
use mathlib.Core.List.{List}
use Prim.Native.Nat.{ℕ}
use lib.Bits.{xor_zero_r}
use Rattle.mugi.specs.declared.Mugi.{Mugi}
use Rattle.mugi.specs.Cipher.{cell, f, rho1, turned, next}
use Rattle.mugi.specs.Steps.{stirred, first, second, moved}

pub turned_by : (a : List ℕ) → stirred a (f (cell a 1)) (f (cell a 1)) ≡ turned a
unfolding turned rho1
turned_by a = ap (λ (n : ℕ). stirred a (f n) (f n)) (sym (xor_zero_r (cell a 1)))

pub stepped : (s s' : Mugi) (x y : ℕ) → x ≡ first s → y ≡ second s → s' ≡ moved s x y → s' ≡ next s
unfolding next rho1 first second
stepped s s' x y hx hy e = e ∙ (λ i. moved s (hx i) (hy i))
