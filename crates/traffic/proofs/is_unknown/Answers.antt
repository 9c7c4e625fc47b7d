-- `traffic::is_unknown` meets its contract: either side of its tests is one of the row's.
-- Assumes nothing.
use Rattle.std.proofs.Common.{List, ℕ, ◌≡◌, ◌≤◌, ◌<◌, ◌∙◌, ◌⊎◌, inl, inr, arith}
use lib.Dec.{eqb}
use lib.ListN.{get_or}
use borrow.Author.Tests.{eq-eqb, lt-ltb}
use Rattle.records.specs.Records.{said}
use Rattle.traffic.specs.Traffic.{unknown}
use Rattle.traffic.proofs.Judging.{line-over, cipher-none, cipher-over}
use Rattle.traffic.proofs.is_unknown.Goals.{then-line-gt7, else-line-gt7}
use Rattle.traffic.proofs.is_unknown.Goals as goal

pub returns-then-cipher-eq0 : goal.returns-then-cipher-eq0
returns-then-cipher-eq0 c =
    elim c.if-line-gt7.branch [
      | then-line-gt7 w ↦ w.t-9-is ∙ lt-ltb 7 _ w.if-line-gt7.true ∙ line-over c.args.record.now 0 w.if-line-gt7.true
      | else-line-gt7 w ↦ w.t-9-is ∙ without c.args.record.now w.if-line-gt7.false c.if-cipher-eq0.either
    ]
  where
    without : (s : List ℕ) → get_or s 0 0 ≤ 7 → (7 < get_or s 0 0) ⊎ ((get_or s 0 0 ≤ 7) × (get_or s 1 0 ≡ 0)) → eqb (get_or s 1 0) 0 ≡ unknown (said s)
    without s h (inl k) = absurd (omega arith)
    without s h (inr k) = eq-eqb (get_or s 1 0) 0 k.1 ∙ cipher-none s 0 h k.1

pub returns-else-cipher-eq0 : goal.returns-else-cipher-eq0
returns-else-cipher-eq0 c = cipher-over c.args.record.now 0 c.if-cipher-eq0.false.0 c.if-cipher-eq0.false.1
