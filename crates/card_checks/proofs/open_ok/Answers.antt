-- `card_checks::open_ok` meets its contract: its state and its change are tested.
-- Assumes nothing.
use mathlib.Core.Path.{◌≡◌, ap, ap₂, sym, ◌∙◌}
use mathlib.Core.Bool.{Bool}
use mathlib.Core.List.{List}
use Prim.Native.Nat.{ℕ}
use lib.ListN.{get_or}
use Rattle.words.specs.Tests.{both}
use Rattle.machine.specs.Machine.{state_ok, change_ok, image_ok, open_ok, line_ok}
use Rattle.card_line.specs.Words.{line_in}
use Rattle.card_line.proofs.Lines.{state-slice, line-held, open-line}
use Rattle.card_checks.proofs.Walks.{no-more}
use Rattle.card_checks.proofs.open_ok.Goals as goal

-- what is asked of an open line, by what is found of its state
by-state : (ws : List ℕ) → get_or ws 0 0 ≡ 1 → {b : Bool} {c n : ℕ} {w : List ℕ} → b ≡ state_ok c n w → c ≡ (line_in ws).cipher → n ≡ (line_in ws).n → w ≡ (line_in ws).words →
    line_ok (line_in ws) ≡ both b (change_ok (line_in ws).cipher (line_in ws).n (line_in ws).due (line_in ws).waiting)
unfolding open_ok
by-state ws one {b} {c} {n} {w} h e f g =
    let l = line_in ws in
    let k : b ≡ image_ok l = h ∙ ap₂ (λ (x y : ℕ). state_ok x y w) e f ∙ ap (state_ok l.cipher l.n) g in
    sym (open-line ws one) ∙ ap (λ (x : Bool). both x (change_ok l.cipher l.n l.due l.waiting)) (sym k)

pub returns-then-not-state : goal.returns-then-not-state
returns-then-not-state c =
    let ws = c.args.line.now in
    let l = line_in ws in
    let e = by-state ws c.requires.1 c.open_with-state.ensures c.cipher_of-cipher.ensures c.position_of-n.ensures.0 (state-slice ws c.requires.0) in
    (sym (e ∙ ap (λ (x : Bool). both x (change_ok l.cipher l.n l.due l.waiting)) c.if-not-state.true), no-more)

pub returns : goal.returns
returns c =
    let ws = c.args.line.now in
    let l = line_in ws in
    let s = by-state ws c.requires.1 c.open_with-state.ensures c.cipher_of-cipher.ensures c.position_of-n.ensures.0 (state-slice ws c.requires.0) in
    let yes = s ∙ ap (λ (x : Bool). both x (change_ok l.cipher l.n l.due l.waiting)) c.if-not-state.false in
    let e = c.change_ok.ensures.0 ∙ ap₂ (λ (x y : ℕ). change_ok x y l.due l.waiting) c.cipher_of-cipher.ensures c.position_of-n.ensures.0 ∙ sym yes in
    (e, λ y. line-held ws c.requires.0 c.position_of-n.ensures.1 c.change_ok.ensures.1 (sym e ∙ y))
