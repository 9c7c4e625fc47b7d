-- `card_checks::card_ok` meets its contract: the lines before i are as a call leaves them, and the words hold them.
-- Assumes nothing.
use Prim.Native.Nat.{ℕ, ◌-◌, ◌<◌}
use mathlib.Core.Path.{◌≡◌, refl, ap, sym, ◌∙◌}
use mathlib.Core.Bool.{Bool, true, false}
use mathlib.Core.List.{List}
use native.Mathlib.Nat.{not-suc-le-zero}
use native.Mathlib.Omega.{arith}
use Rattle.card_sizes.specs.Sizes.{line_count}
use Rattle.words.specs.Tests.{both}
use Rattle.words.proofs.Tests.{both_true}
use Rattle.machine.specs.Parks.{parks_ok}
use Rattle.machine.specs.Machine.{line_ok, all_ok}
use Rattle.card_line.specs.Words.{line_in, line_words}
use Rattle.card_layout.specs.Words.{card_in}
use Rattle.card_layout.proofs.Cards.{held_more}
use Rattle.card_checks.proofs.Walks.{lines-fail, lines-pass, no-more}
use Rattle.card_checks.proofs.card_ok.Goals as goal

pub loop-i-init : goal.loop-i-init
loop-i-init c = record { passed = refl; held = λ j h. absurd (not-suc-le-zero h) }

pub returns-then-not-line_ok : goal.returns-then-not-line_ok
returns-then-not-line_ok c =
    let h : c.loop-i.i < line_count = omega arith in
    let no : c.line_ok.result ≡ false = c.if-not-line_ok.true in
    let bad = lines-fail line_count (card_in c.args.card.now).lines c.loop-i.i h (ap line_ok (sym c.line_of.ensures.line) ∙ sym c.line_ok.ensures.0 ∙ no) in
    (ap (λ (b : Bool). both b (parks_ok (card_in c.args.card.now).parks)) bad, no-more)

pub loop-i-preserved : goal.loop-i-preserved
loop-i-preserved c =
    let yes : c.line_ok.result ≡ true = c.if-not-line_ok.false in
    let e = c.line_of.ensures.words in
    record {
      passed = lines-pass (card_in c.args.card.now).lines c.loop-i.i c.loop-i.invariant.passed (ap line_ok (sym c.line_of.ensures.line) ∙ sym c.line_ok.ensures.0 ∙ yes);
      held = held_more c.loop-i.i c.args.card.now c.loop-i.invariant.held (ap (λ (x : List ℕ). line_words (line_in x)) (sym e) ∙ c.line_ok.ensures.1 yes ∙ e);
    }

pub returns : goal.returns
returns c =
    let e : c.loop-i.i ≡ line_count = omega arith in
    let ok = ap (λ (k : ℕ). all_ok k (card_in c.args.card.now).lines) (sym e) ∙ c.loop-i.invariant.passed in (
      c.parks_ok.ensures ∙ ap (λ (b : Bool). both b (parks_ok (card_in c.args.card.now).parks)) (sym ok),
      λ r. record { size = c.requires; ok = both_true ok (sym c.parks_ok.ensures ∙ r); held = rw e at c.loop-i.invariant.held },
    )
