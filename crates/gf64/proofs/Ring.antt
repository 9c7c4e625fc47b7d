-- The laws of products modulo a polynomial of degree d, for blocks.
-- Assumes nothing.
use mathlib.Core.Path.{◌≡◌}
use Prim.Native.Nat.{ℕ}
use lib.Dec.{lit<}
use Rattle.field.proofs.Ring as R
use Rattle.blocks.specs.Blocks.{Block}
use Rattle.gf64.specs.Gf64.{polynomial, by_x, mul}

pub by-x : R.ByX 64 by_x
unfolding by_x
by-x = R.by-times_x 64 polynomial (lit< tt)

pub mul-block : (a b : ℕ) → Block a → Block (mul a b)
unfolding mul by_x
mul-block = R.mul-under 64 by_x by-x

pub mul-zero-r : (a : ℕ) → mul a 0 ≡ 0
unfolding mul by_x
mul-zero-r = R.mul-zero-r 64 by_x by-x

pub mul-one : (b : ℕ) → Block b → mul 1 b ≡ b
unfolding mul by_x
mul-one = R.mul-one 64 by_x by-x

pub mul_comm : (a b : ℕ) → Block a → Block b → mul a b ≡ mul b a
unfolding mul by_x
mul_comm = R.mul_comm 64 by_x by-x

pub mul_assoc : (a b c : ℕ) → Block a → Block b → Block c → mul (mul a b) c ≡ mul a (mul b c)
unfolding mul by_x
mul_assoc = R.mul_assoc 64 by_x by-x
