-- `card_checks::line_ok` meets its contract: an open line that passes at a glance passes, of the others it is tested what `open_ok` asks; an idle one's words are all zero, and of a loaded one
-- it is tested what it keeps.
-- Assumes nothing.
use mathlib.Core.Path.{sym, ◌∙◌}
use Prim.Native.Nat.{◌^◌, ◌<◌}
use lib.ListN.{get_or}
use Rattle.card_line.proofs.Lines.{no_line}
use Rattle.card_checks.proofs.Glances.{seen-line, idle-line}
use Rattle.card_checks.proofs.Walks.{no-more}
use Rattle.card_checks.proofs.line_ok.Goals as goal

pub returns-then-seen : goal.returns-then-seen
returns-then-seen c =
    let low : get_or c.args.line.now 3 0 < 2 ^ 32 = (c.type_inv.line 3).fits in
    let z = seen-line c.args.line.now c.requires c.if-mode-eq1.true low (sym c.seen_ok-seen.ensures ∙ c.if-seen.true) in
    (sym z.0, λ _. z.1)

pub open_ok-requires : goal.open_ok-requires
open_ok-requires c = (c.requires, c.if-mode-eq1.true)

pub returns-then-mode-eq0 : goal.returns-then-mode-eq0
returns-then-mode-eq0 c = idle-line c.args.line.now c.requires c.if-mode-eq0.true _ c.words_zero.ensures

pub loaded_ok-requires : goal.loaded_ok-requires
loaded_ok-requires c = (c.requires, c.if-mode-eq2.true)

pub returns : goal.returns
returns c =
    (no_line c.args.line.now c.requires (λ o. absurd (c.if-mode-eq0.false o)) c.if-mode-eq1.false c.if-mode-eq2.false, no-more)

pub returns-then-mode-eq1 : goal.returns-then-mode-eq1
returns-then-mode-eq1 c = c.open_ok.ensures

pub returns-then-mode-eq2 : goal.returns-then-mode-eq2
returns-then-mode-eq2 c = c.loaded_ok.ensures
