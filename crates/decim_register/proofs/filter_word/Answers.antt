-- `decim_register::filter_word` meets its contract: the counts of the thirteen windows of LF.
-- Assumes nothing.
use mathlib.Core.Path.{◌≡◌}
use Prim.Native.Nat.{ℕ}
use lib.ListN.{length, get_or}
use mir.Val.{Fits}
use mir.Syntax.{w32}
use Rattle.words.proofs.Ranges.{all-by}
use Rattle.decim_register.specs.Wide.{counted}
use Rattle.decim_register.proofs.Feeding.{taps, lf-is}
use borrow.Author.Rules.{rules}
use Rattle.decim_register.proofs.filter_word.Goals as goal

pub returns : goal.returns
unfolding counted taps
returns c =
    let six : length c.args.a ≡ 6 = search rules in
    let fits : (i : ℕ) → Fits w32 (get_or c.args.a i 0) = λ i. search rules in
    rw (c.count_high-s.ensures, c.count_middle.ensures, c.count_low.ensures, c.requires)
    (lf-is c.args.a six (all-by c.args.a (λ i h. (fits i).fits)))
