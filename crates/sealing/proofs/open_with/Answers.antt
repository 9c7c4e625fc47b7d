-- `sealing::open_with` meets its contract: what is recovered is released where its padding and redundancy are right.
-- Assumes nothing.
use mathlib.Core.Path.{◌≡◌, refl, sym, ◌∙◌}
use mathlib.Core.Bool.{not}
use Prim.Native.Nat.{◌-◌}
use lib.ListN.{length, take}
use Rattle.command.specs.Decode.{number_of}
use Rattle.machine.specs.Machine.{stream_of}
use Rattle.sealing_rules.specs.Sealing.{accepted, refused_where, key_blocks, genuine_with, message_with}
use Rattle.sealing_rules.proofs.Outcomes.{answered-by, answered-refused, open_none, open-some}
use Rattle.sealing_steps.proofs.Wholes.{test-is, message-is}
use Rattle.sealing.proofs.open_with.Goals as goal

pub returns-in_default : goal.returns-in_default
returns-in_default c =
    answered-by (open_none _ c.args.redundancy.now c.args.sealed.now (c.in_default.ensures.found _ _ c.start-walk.ensures).0) answered-refused

pub returns : goal.returns
returns c =
    let n = number_of c.args.c in
    let s = stream_of n c.args.key.now c.args.iv.now in
    let z = key_blocks n c.args.key.now c.args.iv.now in
    let t = c.in-Some.found.t in
    let r = c.args.redundancy.now in
    let x = c.args.sealed.now in
    let o = c.requires.openable in
    let f = c.in-Some.ensures.found n s c.start-walk.ensures in
    let d = c.recover-last.ensures n s t f.stands in
    let genuine : genuine_with z t r x ≡ c.is_genuine-genuine.result =
    test-is n t s r x _ o.least o.whole f.block d.bytes _ _ _ refl refl d.behind ∙ sym c.is_genuine-genuine.ensures in
    let message : take (length x - 16) c.recover-last.new.held ≡ message_with z t x = message-is n t s r x _ o.least o.whole f.block d.bytes in
    answered-by (open-some z t f.index f.tried r x ∙ (λ j. refused_where (not (genuine j)) 24 (accepted (sym message j)))) c.release.ensures
