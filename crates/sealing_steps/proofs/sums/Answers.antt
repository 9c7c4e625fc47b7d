-- `sealing_steps::sums` meets its contract: the message crypted from block t + 1 on, and behind it the W of padding and redundancy.
-- Assumes nothing.
use mathlib.Core.Path.{◌≡◌, refl}
use Prim.Native.Nat.{◌+◌, ◌*◌, ◌/◌}
use native.Mathlib.Omega.{arith}
use lib.ListN.{length}
use Rattle.words.proofs.Ranges.{all-by}
use Rattle.sealing_steps.proofs.Wholes.{at_same, sums-put}
use Rattle.sealing_steps.proofs.sums.Goals as goal

pub returns : goal.returns
returns c =
    λ k s t h.
    let u = length c.args.message.now / 8 in
    let n : 8 * (t + 1) + length c.args.message.now ≡ 8 * (t + 1 + u) = omega (arith, c.requires.whole) in
    let d = c.crypt_on.ensures.crypted k s _ h in
    let w = c.ends-e.ensures k s (t + 1 + u) (at_same n d.stands) in
    record {
      bytes = sums-put k t s c.args.redundancy.now c.args.message.now (all-by c.args.message.now (λ i _. (c.type_inv.message i).fits)) c.requires.whole c.requires.fits refl w.padding-is w.redundancy-is d
          c.put_block.ensures c.put_block-2.ensures;
    }
