-- The multiples of a block from which its products are put together: for each two digits of the other factor, at their place, the four products.
-- Assumes nothing.
use Rattle.std.specs.Prelude.{◌≡◌, List, ℕ, ◌*◌, ◌/◌, ◌%◌}
use Rattle.words.specs.Lists.{tab, iter}
use Rattle.field.specs.Gf2.{mul_digits}
use Rattle.gf64.specs.Gf64.{by_x, mul}

-- entry k: a x^(2 (k / 4)) times the polynomial of the two digits k % 4
unfoldable pub part : (a k : ℕ) → ℕ
part a k = mul_digits by_x 2 (iter (2 * (k / 4)) by_x a) (k % 4)

unfoldable pub multiples_of : ℕ → List ℕ
multiples_of a = tab 128 (part a)

-- r is the product with b of every block whose multiples the list t holds
abbrev pub TimesBy : (t : List ℕ) (b r : ℕ) → Type 0
TimesBy t b r = (a : ℕ) → t ≡ multiples_of a → r ≡ mul a b
