-- `kcipher2::pick` meets its contract: y + (x + y) e is y where e is 0, and x where it is 1.
-- Assumes nothing.
use Rattle.std.proofs.Common.{◌≡◌, ℕ, zero, suc, ◌*◌, ◌^◌, ◌<◌, sym, ap, ◌∙◌, mul-zero, mul-one, arith}
use lib.Bits.{bit_xor, xor_comm, xor_self, xor_zero_r, xor_lt}
use Rattle.words.specs.Word.{◌⊕◌}
use Rattle.words.proofs.Xor.{xor_assoc}
use Rattle.kcipher2.specs.Cipher.{by_digit}
use Rattle.kcipher2.proofs.pick.Goals as goal

times-digit : (n e : ℕ) → n < 2 ^ 32 → e < 2 → n * e < 2 ^ 32
times-digit n zero h k = rw mul-zero (omega arith)
times-digit n (suc zero) h k = rw mul-one h
times-digit n (suc (suc e)) h k = omega arith

picked : (e x y : ℕ) → e < 2 → y ⊕ ((x ⊕ y) * e) ≡ by_digit e x y
picked zero x y h = ap (bit_xor y) (mul-zero (x ⊕ y)) ∙ xor_zero_r y
picked (suc zero) x y h =
    ap (bit_xor y) (mul-one (x ⊕ y) ∙ xor_comm x y) ∙ sym (xor_assoc y y x) ∙ ap (λ (z : ℕ). z ⊕ x) (xor_self y)
picked (suc (suc e)) x y h = absurd (omega arith)

pub overflow_mul-result : goal.overflow_mul-result
overflow_mul-result c = record {
  fits = times-digit _ c.args.e (xor_lt 32 c.args.x c.args.y c.ranges.x.fits c.ranges.y.fits) c.requires;
}

pub returns : goal.returns
returns c = picked c.args.e c.args.x c.args.y c.requires
