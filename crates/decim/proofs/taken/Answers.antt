-- `decim::taken` meets its contract. The loop's invariant: the buffer is that after k bits, and z has those bits.
-- Assumes nothing.
use mathlib.Core.Path.{◌≡◌, refl, ap}
use native.Mathlib.Omega.{arith}
use Rattle.decim_register.specs.Register.{bit_in}
use Rattle.decim_buffer.specs.declared.Buffer.{Buffer}
use Rattle.decim_buffer.specs.Buffers.{refills}
use Rattle.decim.specs.Cipher.{joined_up}
use Rattle.decim.proofs.Bytes.{digit, up_turn, up_fits, up-below}
use Rattle.decim.proofs.Turns.{refills_more}
use Rattle.decim.proofs.taken.Invariants.{bit_after}
use Rattle.decim.proofs.taken.Goals as goal

pub loop-k-init : goal.loop-k-init
unfolding refills joined_up
loop-k-init c = (refl, refl)

pub overflow_add-z : goal.overflow_add-z
overflow_add-z c =
    record {
      fits = up_fits (bit_after c.args.f c.args.h) (λ k. digit _ 0) c.loop-k.k c.loop-k-test.true c.loop-k.invariant.1 (ap (λ (x : Buffer). bit_in x.b 0) c.loop-k.invariant.0);
    }

pub loop-k-preserved : goal.loop-k-preserved
loop-k-preserved c = (
  rw (c.next-held.ensures, c.loop-k.invariant.0, refills_more),
  up_turn (bit_after c.args.f c.args.h) (λ k. digit _ 0) c.loop-k.k c.loop-k-test.true c.loop-k.invariant.1 (ap (λ (x : Buffer). bit_in x.b 0) c.loop-k.invariant.0),
)

pub overflow_cast-result : goal.overflow_cast-result
overflow_cast-result c =
    let e : c.loop-k.k ≡ 8 = omega arith in
    record { fits = rw (c.loop-k.invariant.1, e) (up-below 8 (bit_after c.args.f c.args.h) (λ k. digit _ 0)) }
