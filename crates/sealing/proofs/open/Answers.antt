-- `sealing::open` meets its contract: what the checks refuse is refused, and past them all the sealed message is opened.
-- Assumes nothing.
use mathlib.Core.Path.{ap, ◌∙◌}
use Prim.Native.Nat.{ℕ, ◌-◌}
use native.Mathlib.Omega.{arith}
use lib.ListN.{length}
use Rattle.sealing_rules.specs.Sealing.{key_blocks, open_by}
use Rattle.sealing_rules.proofs.Rows.{check-passed, sealed-least, sealed-most, sealed-whole}
use Rattle.sealing_rules.proofs.Outcomes.{answered-by, answered-passed, admitted-run, admitted-not, open-past, open-not}
use borrow.Author.Rules.{rules}
use Rattle.sealing.proofs.open.Goals as goal

pub returns-in_err-c : goal.returns-in_err-c
returns-in_err-c c =
    answered-by
    (open-not c.args.cipher c.args.key.now c.args.iv.now c.args.redundancy.now c.args.sealed.now (length c.args.out.now)
    (admitted-not c.args.cipher c.args.key.now c.args.iv.now (length c.args.out.now) c.sealed_ok.ensures c.message_length.ensures c.admit.ensures c.in_err-c.was))
    (answered-passed _ c.from_residual.result c.from_residual.ensures.1)

pub open_with-requires-clause-openable : goal.open_with-requires-clause-openable
open_with-requires-clause-openable c =
    let a = admitted-run c.args.cipher c.args.key.now c.args.iv.now (length c.args.out.now) c.sealed_ok.ensures c.message_length.ensures c.admit.ensures c.in_ok-c.was in
    let f = check-passed _ _ _ _ _ _ a.0 in
    record {
      redundancy = search rules;
      least = sealed-least _ f.size;
      most = sealed-most _ f.size;
      whole = sealed-whole _ f.size;
      fits = let q = f.room_for in let l = sealed-least (length c.args.sealed.now) f.size in omega (arith, q, l);
    }

pub returns : goal.returns
returns c =
    let a = admitted-run c.args.cipher c.args.key.now c.args.iv.now (length c.args.out.now) c.sealed_ok.ensures c.message_length.ensures c.admit.ensures c.in_ok-c.was in
    answered-by
    (open-past c.args.cipher c.args.key.now c.args.iv.now c.args.redundancy.now c.args.sealed.now (length c.args.out.now) a.0
    ∙ ap (λ (x : ℕ). open_by (key_blocks x c.args.key.now c.args.iv.now) c.args.redundancy.now c.args.sealed.now) a.1)
    c.open_with.ensures
