-- `card_checks::seen_ok` meets its contract: a position within the limit, and what a glance tells.
-- Assumes nothing.
use mathlib.Core.Path.{◌≡◌, ap, sym, ◌∙◌}
use mathlib.Core.Bool.{Bool, true, false}
use Prim.Native.Nat.{ℕ, ◌≤◌}
use native.Mathlib.Omega.{arith}
use lib.Dec.{leb}
use lib.ListN.{get_or}
use borrow.Author.Tests.{le-leb, lt-leb}
use Rattle.words.specs.Tests.{both}
use Rattle.card_sizes.specs.Sizes.{limit}
use Rattle.card_line.specs.Words.{line_in}
use Rattle.card_checks.specs.Glances.{glanced}
use Rattle.card_checks.proofs.seen_ok.Goals as goal

pub returns-then-n-gt-LIMIT : goal.returns-then-n-gt-LIMIT
returns-then-n-gt-LIMIT c = (let it : (b : Bool) → leb c.position_of-n.result limit ≡ b → both b (glanced (get_or c.args.line.now 1 0) c.args.line.now) ≡ both (leb (line_in c.args.line.now).n limit) (glanced (get_or c.args.line.now 1 0) c.args.line.now) = λ b h. ap (λ (x : Bool). both x (glanced (get_or c.args.line.now 1 0) c.args.line.now)) (sym h ∙ ap (λ (n : ℕ). leb n limit) c.position_of-n.ensures.0) in it) false (lt-leb _ limit c.if-n-gt-LIMIT.true)

pub returns : goal.returns
returns c =
    let h : c.position_of-n.result ≤ limit = omega (arith, c.if-n-gt-LIMIT.false) in
    c.glance.ensures ∙ (let it : (b : Bool) → leb c.position_of-n.result limit ≡ b → both b (glanced (get_or c.args.line.now 1 0) c.args.line.now) ≡ both (leb (line_in c.args.line.now).n limit) (glanced (get_or c.args.line.now 1 0) c.args.line.now) = λ b h. ap (λ (x : Bool). both x (glanced (get_or c.args.line.now 1 0) c.args.line.now)) (sym h ∙ ap (λ (n : ℕ). leb n limit) c.position_of-n.ensures.0) in it) true (le-leb _ limit h)
