-- `decim::start::load_word` meets its contract. The loop's invariant: w is joined of the first j bits.
-- Assumes nothing.
use mathlib.Core.Path.{refl}
use Prim.Native.Nat.{◌+◌, ◌*◌}
use Rattle.decim_register.specs.Register.{joined_down}
use Rattle.decim.specs.Cipher.{loaded_bit}
use Rattle.decim.proofs.Loading.{loaded-bit, joined-more, joined-fits, joined-double}
use Rattle.decim.proofs.start.load_word.Goals as goal

pub loop-j-init : goal.loop-j-init
unfolding joined_down
loop-j-init c = refl

pub overflow_mul-w : goal.overflow_mul-w
overflow_mul-w c =
    record { fits = joined-double (λ n. loaded_bit c.args.key.now c.args.iv.now (32 * c.args.i + n)) (λ n. loaded-bit _ _ _) c.loop-j.invariant c.loop-j-test.true }

pub overflow_add-w : goal.overflow_add-w
overflow_add-w c =
    record { fits = joined-fits (λ n. loaded_bit c.args.key.now c.args.iv.now (32 * c.args.i + n)) (λ n. loaded-bit _ _ _) c.loop-j.invariant c.load_bit.ensures c.loop-j-test.true }

pub loop-j-preserved : goal.loop-j-preserved
loop-j-preserved c =
    joined-more (λ n. loaded_bit c.args.key.now c.args.iv.now (32 * c.args.i + n)) (λ n. loaded-bit _ _ _) c.loop-j.invariant c.load_bit.ensures
