-- `decim::Decim::output` meets its contract: the bits that are taken on the way are the byte, and so are eight bits that are ready.
-- Assumes nothing.
use mathlib.Core.Path.{◌∙◌}
use Rattle.decim.proofs.Bytes.{ready-byte}
use Rattle.decim.proofs.Turns.{taken-byte}
use Rattle.decim.proofs.Decim.output.Goals as goal

pub returns-then-h-lt8 : goal.returns-then-h-lt8
returns-then-h-lt8 c =
    c.taken.ensures ∙ taken-byte c.args.self c.f_word.ensures

pub returns : goal.returns
returns c =
    c.first_bits.ensures ∙ ready-byte c.args.self c.if-h-lt8.false
