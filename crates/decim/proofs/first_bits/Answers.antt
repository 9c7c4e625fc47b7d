-- `decim::first_bits` meets its contract. The loop's invariant: z has the first j bits.
-- Assumes nothing.
use mathlib.Core.Path.{◌≡◌, refl}
use native.Mathlib.Omega.{arith}
use Rattle.decim_register.specs.Register.{bit_in}
use Rattle.decim.specs.Cipher.{joined_up}
use Rattle.decim.proofs.Bytes.{digit, up_turn, up_fits, up-below}
use Rattle.decim.proofs.first_bits.Goals as goal

pub loop-j-init : goal.loop-j-init
unfolding joined_up
loop-j-init c = refl

pub overflow_add-z : goal.overflow_add-z
overflow_add-z c =
    record { fits = up_fits (bit_in c.args.b) (digit c.args.b) c.loop-j.j c.loop-j-test.true c.loop-j.invariant refl }

pub loop-j-preserved : goal.loop-j-preserved
loop-j-preserved c =
    up_turn (bit_in c.args.b) (digit c.args.b) c.loop-j.j c.loop-j-test.true c.loop-j.invariant refl

pub overflow_cast-result : goal.overflow_cast-result
overflow_cast-result c =
    let e : c.loop-j.j ≡ 8 = omega arith in
    record { fits = rw (c.loop-j.invariant, e) (up-below 8 (bit_in c.args.b) (digit c.args.b)) }
