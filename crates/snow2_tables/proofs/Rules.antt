-- The tables of SNOW 2.0 hold what they stand for: entry k is the product of k with y^4, and with α^-1. Each list is computed from eight products.
-- Assumes nothing.
use mathlib.Core.Path.{◌≡◌, refl}
use Prim.Native.Nat.{ℕ, ◌/◌, ◌%◌, ◌^◌}
use lib.ListN.{get_or}
use Rattle.words.specs.Word.{◌⊕◌}
use Rattle.words.specs.Lists.{Word}
use Rattle.field.specs.Gf8.{squares}
use Rattle.field.specs.Gf32.{Products, times, times_y, alpha, over_alpha}
use Rattle.field.proofs.Elements.{products, inverse-by}
use Rattle.snow2_tables.specs.Tables.{field, alpha_inv, alpha_list, inverse_list}

pub alpha-rule : Products field field.y4 alpha_list
unfolding alpha_list
alpha-rule = products field field.y4 alpha_list refl

pub inverse-rule : Products field alpha_inv inverse_list
unfolding inverse_list
inverse-rule = products field alpha_inv inverse_list refl

-- α^-1 is what the coefficients of y^4 give
pub inverse-worked : over_alpha field.modulus field.y4 ≡ alpha_inv
unfolding over_alpha squares
inverse-worked = refl

-- and it is the inverse of α
pub inverse-of : times field alpha alpha_inv ≡ 1
unfolding times times_y
inverse-of = refl

-- the product with α^-1 is by the table, for every word
pub inverse-times : (w : ℕ) → Word w → (w / 2 ^ 8) ⊕ get_or inverse_list (w % 2 ^ 8) 0 ≡ times field alpha_inv w
unfolding times times_y
inverse-times w h = inverse-by field alpha_inv refl tt inverse_list inverse-rule w h
