-- `sealing::seal_with` meets its contract: the first block that is not 0 multiplies the W_i, or there is none among those tried.
-- Assumes nothing.
use mathlib.Core.Path.{refl, ap, sym, ◌∙◌}
use mathlib.Core.List.{◌++◌}
use Prim.Native.Nat.{ℕ}
use lib.ListN.{drop}
use Rattle.words.proofs.Ranges.{all-by}
use Rattle.command.specs.Decode.{number_of}
use Rattle.sealing_rules.specs.Sealing.{key_blocks, sealed_with}
use Rattle.sealing_rules.proofs.Outcomes.{answered-by, answered-refused, seal-none, seal-some}
use Rattle.sealing_steps.proofs.Wholes.{chained-sealed}
use Rattle.sealing.proofs.seal_with.Goals as goal

pub returns-in_default : goal.returns-in_default
returns-in_default c =
    answered-by (seal-none _ c.args.redundancy.now c.args.message.now (c.in_default.ensures.found _ _ c.start-walk.ensures).0) answered-refused

pub returns : goal.returns
returns c =
    let n = number_of c.args.c in
    let t = c.in-Some.found.t in
    let f = c.in-Some.ensures.found n _ c.start-walk.ensures in
    let d = chained-sealed n t _ c.args.redundancy.now c.args.message.now (all-by c.args.message.now (λ i _. (c.type_inv.message i).fits)) c.requires.sized.whole
    (all-by c.args.redundancy.now (λ i _. (c.type_inv.redundancy i).fits)) c.args.out.now f.block refl (c.sums.ensures n _ t f.stands).bytes c.chain.ensures in
    answered-by (seal-some _ t f.index f.tried c.args.redundancy.now c.args.message.now)
    (record {
      code_is = refl;
      count-is = sym d.1;
      out-is = d.0 ∙ ap (λ (k : ℕ). sealed_with (key_blocks n c.args.key.now c.args.iv.now) t c.args.redundancy.now c.args.message.now ++ drop k c.args.out.now) (sym d.1);
    })
