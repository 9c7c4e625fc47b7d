-- `hex_text::fill` meets its contract: the digits are written from the last on, each before those that are there.
-- Assumes nothing.
use Rattle.hex_text.proofs.Digits.{spelling-none, spelling-more, spelling-all}
use Rattle.hex_text.proofs.fill.Goals as goal

pub loop-i-preserved : goal.loop-i-preserved
loop-i-preserved c = spelling-more c.loop-i.i c.loop-i-test.true c.digit.ensures c.loop-i.invariant

pub loop-i-init : goal.loop-i-init
loop-i-init c = spelling-none

pub returns : goal.returns
returns c = spelling-all c.loop-i.i c.loop-i-test.false c.loop-i.invariant
