-- `sealing_steps::recover` meets its contract: the sealed text crypted from block t + 1 on, the block behind it, and the W_i taken out.
-- Assumes nothing.
use mathlib.Core.Path.{◌≡◌, refl}
use Prim.Native.Nat.{◌+◌, ◌*◌, ◌/◌}
use native.Mathlib.Omega.{arith}
use lib.ListN.{length}
use Rattle.words.proofs.Ranges.{all-by}
use Rattle.sealing_steps.proofs.Wholes.{at_same, recovered-put}
use Rattle.sealing_steps.proofs.recover.Goals as goal

pub returns : goal.returns
returns c =
    λ k s t h.
    let v = length c.args.sealed.now / 8 in
    let n : 8 * (t + 1) + length c.args.sealed.now ≡ 8 * (t + 1 + v) = omega (arith, c.requires.whole) in
    let d = c.crypt_on.ensures.crypted k s _ h in
    let e = c.next_block-z.ensures.read k s (t + 1 + v) (at_same n d.stands) in
    record {
      behind = e.block;
      bytes =
          recovered-put k t s c.args.a c.args.sealed.now c.args.held.now (all-by c.args.sealed.now (λ i _. (c.type_inv.sealed i).fits)) c.requires.whole refl c.inverse-inverse.ensures d
          c.unchain.ensures;
    }
