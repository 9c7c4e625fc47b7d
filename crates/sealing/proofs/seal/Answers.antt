-- `sealing::seal` meets its contract: what the checks refuse is refused, and past them all the message is sealed.
-- Assumes nothing.
use mathlib.Core.Path.{refl, ap, ◌∙◌}
use Prim.Native.Nat.{ℕ}
use lib.ListN.{length}
use Rattle.sealing_rules.specs.Sealing.{key_blocks, seal_by}
use Rattle.sealing_rules.proofs.Rows.{check-passed, message-whole, message-most}
use Rattle.sealing_rules.proofs.Outcomes.{answered-by, answered-passed, admitted-run, admitted-not, seal-past, seal-not}
use borrow.Author.Rules.{rules}
use Rattle.sealing.proofs.seal.Goals as goal

pub returns-in_err-c : goal.returns-in_err-c
returns-in_err-c c =
    answered-by
    (seal-not c.args.cipher c.args.key.now c.args.iv.now c.args.redundancy.now c.args.message.now (length c.args.out.now)
    (admitted-not c.args.cipher c.args.key.now c.args.iv.now (length c.args.out.now) c.message_ok.ensures refl c.admit.ensures c.in_err-c.was))
    (answered-passed _ c.from_residual.result c.from_residual.ensures.1)

pub seal_with-requires-clause-sized : goal.seal_with-requires-clause-sized
seal_with-requires-clause-sized c =
    let a = admitted-run c.args.cipher c.args.key.now c.args.iv.now (length c.args.out.now) c.message_ok.ensures refl c.admit.ensures c.in_ok-c.was in
    let f = check-passed _ _ _ _ _ _ a.0 in
    record { redundancy = search rules; most = message-most _ f.size; whole = message-whole _ f.size; fits = f.room_for }

pub returns : goal.returns
returns c =
    let a = admitted-run c.args.cipher c.args.key.now c.args.iv.now (length c.args.out.now) c.message_ok.ensures refl c.admit.ensures c.in_ok-c.was in
    answered-by
    (seal-past c.args.cipher c.args.key.now c.args.iv.now c.args.redundancy.now c.args.message.now (length c.args.out.now) a.0
    ∙ ap (λ (x : ℕ). seal_by (key_blocks x c.args.key.now c.args.iv.now) c.args.redundancy.now c.args.message.now) a.1)
    c.seal_with.ensures
