-- `card_admits::cells` meets its contract: the words before i are put together with the numbers before them, and the whole has no highest digit where each is a cell.
-- Assumes nothing.
use Rattle.std.proofs.Common.{◌≡◌, ℕ, take, refl, ap, ◌∙◌, arith, rules}
use Rattle.ciphers.specs.Table.{are_cells}
use Rattle.card_admits.proofs.Walks.{celled-more}
use Rattle.card_admits.proofs.cells.Goals as goal

pub loop-i-init : goal.loop-i-init
loop-i-init c = (search rules, refl)

pub loop-i-preserved : goal.loop-i-preserved
loop-i-preserved c = celled-more c.args.w.now c.loop-i.all c.loop-i.i _ c.loop-i-test.true (search rules) refl c.loop-i.invariant

pub returns : goal.returns
returns c =
    let e : c.loop-i.i ≡ 16 = omega arith in
    c.loop-i.invariant.1 ∙ ap (λ (k : ℕ). are_cells (take k c.args.w.now)) e
