-- `card_checks::change_ok` meets its contract: zeros where nothing waits, else a position above the line's and a state.
-- Assumes nothing.
use mathlib.Core.Path.{ap₂, sym, subst, ◌∙◌}
use mathlib.Core.List.{List}
use Prim.Native.Nat.{ℕ, ◌<◌, ◌≤◌}
use native.Mathlib.Omega.{arith}
use Rattle.machine.specs.Machine.{state_ok}
use Rattle.card_line.specs.Words.{line_in}
use Rattle.card_line.proofs.Lines.{waiting-slice}
use Rattle.card_checks.proofs.Changes.{above, none-waits, none-low, low-waits}
use Rattle.card_checks.proofs.change_ok.Goals as goal

pub returns-then-none : goal.returns-then-none
returns-then-none c =
    let h = sym c.words_zero-none.ensures ∙ c.if-none.true in
    (none-waits c.args.line.now c.requires c.args.c c.args.n h, none-low c.args.line.now c.requires h)

pub returns-then-due-n : goal.returns-then-due-n
returns-then-due-n c =
    (low-waits c.args.line.now c.requires c.args.c c.args.n (sym c.words_zero-none.ensures ∙ c.if-none.false) (subst (λ (x : ℕ). x ≤ c.args.n) c.due_of-due.ensures.0 c.if-due-n.true), c.due_of-due.ensures.1)

pub returns : goal.returns
returns c =
    let h : c.args.n < (line_in c.args.line.now).due = subst (λ (x : ℕ). c.args.n < x) c.due_of-due.ensures.0 (omega (arith, c.if-due-n.false)) in (
      c.open_with.ensures
          ∙ ap₂ (λ (x : ℕ) (w : List ℕ). state_ok c.args.c x w) c.due_of-due.ensures.0 (waiting-slice c.args.line.now c.requires)
          ∙ above c.args.c c.args.n (line_in c.args.line.now).due (line_in c.args.line.now).waiting h,
      c.due_of-due.ensures.1,
    )
