-- `decim_register::four` meets its contract: six words moved up by four bits are the register after four turns.
-- Assumes nothing.
use mathlib.Core.Path.{◌≡◌}
use Prim.Native.Nat.{ℕ}
use lib.ListN.{length, get_or}
use mir.Val.{Fits}
use mir.Syntax.{w32}
use Rattle.words.proofs.Ranges.{all-by}
use Rattle.decim_register.proofs.Feeding.{four_is}
use Rattle.decim_register.proofs.Ranges.{turns-in}
use borrow.Author.Rules.{rules}
use Rattle.decim_register.proofs.four.Goals as goal

pub returns : goal.returns
returns c =
    let six : length c.args.a ≡ 6 = search rules in
    let fits : (i : ℕ) → Fits w32 (get_or c.args.a i 0) = λ i. search rules in
    let cells = all-by c.args.a (λ i h. (fits i).fits) in
    rw (c.splice-6.ensures, c.splice-5.ensures, c.splice-4.ensures, c.splice-3.ensures, c.splice-2.ensures, c.splice.ensures, c.requires)
    (four_is c.args.a six cells (turns-in 4 c.args.a (record { six = six; cells = cells })))
