-- `decim_register::feed_word` meets its contract: what the register feeds is found from what its words say of it.
-- Assumes nothing.
use mathlib.Core.Path.{◌≡◌}
use Prim.Native.Nat.{ℕ}
use lib.ListN.{length, get_or}
use mir.Val.{Fits}
use mir.Syntax.{w32}
use Rattle.words.proofs.Ranges.{all-by}
use Rattle.decim_register.proofs.Feeding.{fed-is}
use borrow.Author.Rules.{rules}
use Rattle.decim_register.proofs.feed_word.Goals as goal

pub returns : goal.returns
returns c =
    let six : length c.args.a ≡ 6 = search rules in
    let fits : (i : ℕ) → Fits w32 (get_or c.args.a i 0) = λ i. search rules in
    rw (c.solve.ensures, c.known_high.ensures, c.known_low.ensures) (fed-is c.args.a six (all-by c.args.a (λ i h. (fits i).fits)))
