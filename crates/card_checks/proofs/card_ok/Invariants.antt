-- `card_checks::card_ok` meets its contract: the lines before i are as a call leaves them, and the words hold them.
-- Assumes nothing.
use Prim.Native.Nat.{ℕ, ◌-◌, ◌<◌, ◌≤◌}
use mathlib.Core.Path.{◌≡◌, refl, ap, sym, ◌∙◌}
use mathlib.Core.Bool.{Bool, true}
use mathlib.Core.List.{List}
use native.Mathlib.Nat.{not-suc-le-zero}
use native.Mathlib.Omega.{arith}
use borrow.Author.Tests.{not-true, not-false}
use Rattle.card_sizes.specs.Sizes.{line_count}
use Rattle.words.specs.Tests.{both}
use Rattle.words.proofs.Tests.{both_true}
use Rattle.machine.specs.Parks.{parks_ok}
use Rattle.machine.specs.Machine.{line_ok, all_ok}
use Rattle.card_line.specs.Words.{line_in, line_words}
use Rattle.card_layout.specs.Words.{card_in, Held}
use Rattle.card_layout.proofs.Cards.{part-is, part_length, line-part, held_more}
use Rattle.card_checks.proofs.Walks.{lines-fail, lines-pass, no-more}
use borrow.Author.Rules.{rules}
use Rattle.card_checks.proofs.card_ok.Given as goal

abbrev pub invariant-loop-i : goal.invariant-loop-i
invariant-loop-i l = record { passed : all_ok l.i (card_in l.card).lines ≡ true; held : Held l.i l.card }
