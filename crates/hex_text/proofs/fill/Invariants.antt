-- `hex_text::fill` meets its contract: the digits are written from the last on, each before those that are there.
-- Assumes nothing.
use Rattle.hex_text.proofs.Digits.{Spelling}
use Rattle.hex_text.proofs.fill.Given as goal

abbrev pub invariant-loop-i : goal.invariant-loop-i
invariant-loop-i l = Spelling l.n l.initial.out l.out l.i l.rest
