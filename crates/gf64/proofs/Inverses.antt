-- Every block but 0 has an inverse: x^(2^64) is x, by computation, and a table of 64 blocks, which from e^2 + e gives e without its lowest digit,
-- shows that only 0 and 1 are their own squares.
-- Assumes nothing.
use mathlib.Core.Path.{◌≡◌, refl, ap, ap₂, sym, ◌∙◌}
use mathlib.Core.List.{List, [], ◌∷◌}
use Prim.Native.Nat.{ℕ, ◌*◌, ◌/◌, ◌%◌, ◌<◌}
use native.Mathlib.Omega.{arith}
use lib.Bits.{bit_xor, xor_shr, xor_mod, xor_self}
use lib.Dec.{lit<, eqb, eqb→eq, T}
use Rattle.words.specs.Word.{◌⊕◌}
use Rattle.words.specs.Lists.{iter}
use Rattle.words.proofs.Xor.{xor-swap}
use Rattle.field.specs.Gf2.{if_one}
use Rattle.field.proofs.Additive.{Additive, if_one-digit, digit, double-sum, agree, agree_at}
use Rattle.field.proofs.Inverses as I
use Rattle.blocks.specs.Blocks.{Block}
use Rattle.gf64.specs.Gf64.{by_x, mul, reciprocal}
use Rattle.gf64.proofs.Ring.{by-x, mul-zero-r}

-- x^(2^64) is x
x-test : T (eqb (I.many 64 by_x by-x 64 2) 2)
unfolding I.many iter by_x
x-test = tt

x-back : I.many 64 by_x by-x 64 2 ≡ 2
x-back = eqb→eq (I.many 64 by_x by-x 64 2) 2 x-test

-- ---- only 0 and 1 are their own squares

-- the block of a table's entries at the digits of w
unfoldable pick-rows : List ℕ → ℕ → ℕ
pick-rows [] w = 0
pick-rows (r ∷ rs) w = if_one (w % 2) r ⊕ pick-rows rs (w / 2)

rows-sum : (rs : List ℕ) → Additive (pick-rows rs)
unfolding pick-rows
rows-sum [] u v = refl
rows-sum (r ∷ rs) u v =
    ap₂ (λ (x y : ℕ). if_one x r ⊕ pick-rows rs y) (xor_mod u v 1) (xor_shr u v 1)
    ∙ ap₂ bit_xor (if_one-digit (u % 2) (v % 2) r (digit u) (digit v)) (rows-sum rs (u / 2) (v / 2))
    ∙ xor-swap (if_one (u % 2) r) (if_one (v % 2) r) (pick-rows rs (u / 2)) (pick-rows rs (v / 2))

rows : List ℕ
rows =
    0x19c9369f278adc02 ∷ 0x84b2b22ab2383ee4 ∷ 0x84b2b22ab2383ee6 ∷ 0x9d7b84b495b3e3f6 ∷
    0x84b2b22ab2383ee2 ∷ 0x37c470b49213f790 ∷ 0x9d7b84b495b3e3fe ∷ 0x1000a0105137c ∷
    0x84b2b22ab2383ef2 ∷ 0x368e964a8edce1fc ∷ 0x37c470b49213f7b0 ∷ 0x19c9368e278fdf4c ∷
    0x9d7b84b495b3e3be ∷ 0x2e4da23cbc7d4570 ∷ 0x1000a010513fc ∷ 0x84f35772bac24232 ∷
    0x84b2b22ab2383ff2 ∷ 0x37c570ba9314e4fc ∷ 0x368e964a8edce3fc ∷ 0xb377c390213cdb0e ∷
    0x37c470b49213f3b0 ∷ 0x85ed5a3aa99c24f2 ∷ 0x19c9368e278fd74c ∷ 0xaabff0000780000e ∷
    0x9d7b84b495b3f3be ∷ 0x84b6b3dab03038f2 ∷ 0x2e4da23cbc7d6570 ∷ 0x511ea03494ffc ∷
    0x1000a010553fc ∷ 0xae0c0220343c6c0e ∷ 0x84f35772bac2c232 ∷ 0x800000008000000e ∷
    0x84b2b22ab2393ff2 ∷ 0xb376c29c202bc97e ∷ 0x37c570ba9316e4fc ∷ 0x9c3062488879e6ce ∷
    0x368e964a8ed8e3fc ∷ 0x41e42c08e47e70 ∷ 0xb377c3902134db0e ∷ 0x85b9b108a60f56ce ∷
    0x37c470b49203f3b0 ∷ 0x19dd3b6e21f3cb4c ∷ 0x85ed5a3aa9bc24f2 ∷ 0x198ddf682c428ac0 ∷
    0x19c9368e27cfd74c ∷ 0x4b7c68431ca84b0 ∷ 0xaabff0000700000e ∷ 0x8040655489ffefbe ∷
    0x9d7b84b494b3f3be ∷ 0x18c1354e32bfa74c ∷ 0x84b6b3dab23038f2 ∷ 0xaaf613cc0f74627e ∷
    0x2e4da23cb87d6570 ∷ 0x3248b3d6b3342a8c ∷ 0x511ea0b494ffc ∷ 0xb60813c00e70700e ∷
    0x1000a110553fc ∷ 0x1e0d022a05393ffc ∷ 0xae0c0220143c6c0e ∷ 0xe0c0220143c6c00 ∷
    0x84f35772fac2c232 ∷ 0x0 ∷ 0x800000000000000e ∷ 0xc041e55948fbfdce ∷ []

rows-zero : (rs : List ℕ) → pick-rows rs 0 ≡ 0
unfolding pick-rows
rows-zero [] = refl
rows-zero (r ∷ rs) = rows-zero rs

-- what the table gives of e^2 + e
from-square : ℕ → ℕ
from-square a = pick-rows rows (mul a a ⊕ a)

upper : ℕ → ℕ
upper a = a / 2 * 2

rows-test : T (agree from-square upper 64)
unfolding from-square upper rows pick-rows mul by_x
rows-test = tt

square-sum : (a b : ℕ) → Block a → Block b → mul (a ⊕ b) (a ⊕ b) ≡ mul a a ⊕ mul b b
unfolding mul by_x
square-sum = I.square-sum 64 by_x by-x

from-square-sum : (a b : ℕ) → Block a → Block b → from-square (a ⊕ b) ≡ from-square a ⊕ from-square b
unfolding from-square
from-square-sum a b ha hb =
    ap (λ (x : ℕ). pick-rows rows (x ⊕ (a ⊕ b))) (square-sum a b ha hb) ∙ ap (pick-rows rows) (xor-swap (mul a a) (mul b b) a b) ∙ rows-sum rows (mul a a ⊕ a) (mul b b ⊕ b)

upper-sum : (a b : ℕ) → upper (a ⊕ b) ≡ upper a ⊕ upper b
unfolding upper
upper-sum a b = ap (λ (x : ℕ). x * 2) (xor_shr a b 1) ∙ double-sum (a / 2) (b / 2)

zero-both : from-square 0 ≡ upper 0
unfolding from-square upper
zero-both = ap (λ (x : ℕ). pick-rows rows (x ⊕ 0)) (mul-zero-r 0) ∙ rows-zero rows

own_square : (a : ℕ) → Block a → mul a a ≡ a → a < 2
unfolding from-square upper
own_square a h q =
    let t = I.known-below 64 from-square upper from-square-sum (λ u v _ _. upper-sum u v) zero-both (agree_at from-square upper 64 rows-test) a h in
    let z : pick-rows rows (mul a a ⊕ a) ≡ 0 = ap (λ (x : ℕ). pick-rows rows (x ⊕ a)) q ∙ ap (pick-rows rows) (xor_self a) ∙ rows-zero rows in
    let u : a / 2 * 2 ≡ 0 = sym t ∙ z in
    omega (arith, u)

-- ---- so

-- every block but 0 times its inverse is 1
pub inverse-is : (a : ℕ) → Block a → (a ≡ 0 → ⊥) → mul a (reciprocal a) ≡ 1
unfolding mul by_x
inverse-is = I.inverted 64 by_x by-x 63 refl (lit< tt) x-back own_square

pub inverse-block : (a : ℕ) → Block a → Block (reciprocal a)
unfolding mul by_x
inverse-block = I.inverse-under 64 by_x by-x 63 refl (lit< tt) x-back own_square
