-- `decim::Decim::step` meets its contract: after 32 turns the register has moved by a word, and the buffer is that after eight bits.
-- Assumes nothing.
use mathlib.Core.Path.{◌≡◌}
use Prim.Native.Nat.{ℕ}
use lib.ListN.{length, get_or}
use mir.Val.{Fits}
use mir.Syntax.{w32}
use Rattle.words.proofs.Ranges.{all-by}
use Rattle.decim_register.specs.Range.{RegisterIn}
use Rattle.decim.proofs.Turns.{byte-on}
use borrow.Author.Rules.{rules}
use Rattle.decim.proofs.Decim.step.Goals as goal

pub returns : goal.returns
returns c =
    byte-on c.args.self c.f_word-f.ensures ((let it : RegisterIn c.args.self.a = let six : length c.args.self.a ≡ 6 = search rules in let fits : (j : ℕ) → Fits w32 (get_or c.args.self.a j 0) = λ j. search rules in record { six = six; cells = all-by c.args.self.a (λ j h. (fits j).fits) } in it)) c.feed_word-r.ensures c.moved-b.ensures c.eight.ensures
