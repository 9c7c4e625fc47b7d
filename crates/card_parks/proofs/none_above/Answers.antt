-- `card_parks::none_above` meets its contract: of no line before i the held number is above the line's count.
-- Assumes nothing.
use mathlib.Core.Path.{◌≡◌, ap, sym, ◌∙◌}
use Prim.Native.Nat.{ℕ, ◌-◌}
use native.Mathlib.Numerals.{add-one}
use native.Mathlib.Omega.{arith}
use Rattle.card_sizes.specs.Sizes.{line_count}
use Rattle.machine.specs.Parks.{none_above, parks_ok}
use Rattle.machine.proofs.Parks.{above-bad, above_more}
use Rattle.card_layout.specs.Words.{card_in}
use Rattle.card_parks.proofs.Parks.{held-is, count-is}
use Rattle.card_parks.proofs.none_above.Goals as goal

pub returns-then-held-count : goal.returns-then-held-count
unfolding parks_ok
returns-then-held-count c =
    let h = held-is c.args.card.now c.loop-i.i in
    let n = count-is c.args.card.now c.loop-i.i (omega arith) in
    sym (above-bad line_count (card_in c.args.card.now).parks c.loop-i.i (omega arith) (omega (arith, c.if-held-count.true, h, n)))

pub loop-i-preserved : goal.loop-i-preserved
loop-i-preserved c =
    let h = held-is c.args.card.now c.loop-i.i in
    let n = count-is c.args.card.now c.loop-i.i (omega arith) in
    ap (λ (k : ℕ). none_above k (card_in c.args.card.now).parks) (add-one c.loop-i.i) ∙ above_more c.loop-i.i (card_in c.args.card.now).parks c.loop-i.invariant (omega (arith, c.if-held-count.false, h, n))

pub returns : goal.returns
unfolding parks_ok
returns c =
    let e : c.loop-i.i ≡ line_count = omega arith in
    sym (ap (λ (k : ℕ). none_above k (card_in c.args.card.now).parks) (sym e) ∙ c.loop-i.invariant)
