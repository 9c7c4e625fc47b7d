-- `decim::start::load_bit` meets its contract: each way through is a case of 8.4.3 a).
-- Assumes nothing.
use mathlib.Core.Path.{◌∙◌}
use Rattle.decim.proofs.Loading.{loaded-key, loaded-both, loaded-four, loaded-iv}
use Rattle.decim.proofs.start.load_bit.Goals as goal

pub returns-then-j-lt80 : goal.returns-then-j-lt80
returns-then-j-lt80 c = c.string_bit.ensures ∙ loaded-key c.args.key.now c.args.iv.now c.args.j c.if-j-lt80.true

pub returns-then-j-lt144 : goal.returns-then-j-lt144
returns-then-j-lt144 c = rw (c.string_bit-then-j-lt144-2.ensures, c.string_bit-then-j-lt144.ensures) (loaded-both c.args.key.now c.args.iv.now c.args.j c.if-j-lt80.false c.if-j-lt144.true)

pub returns-then-j-lt160 : goal.returns-then-j-lt160
returns-then-j-lt160 c =
    rw (c.string_bit-then-j-lt160-5.ensures, c.string_bit-then-j-lt160-4.ensures, c.string_bit-then-j-lt160-3.ensures, c.string_bit-then-j-lt160-2.ensures, c.string_bit-then-j-lt160.ensures)
    (loaded-four c.args.key.now c.args.iv.now c.args.j c.if-j-lt144.false c.if-j-lt160.true)

pub returns : goal.returns
returns c =
    rw (c.string_bit-3.ensures, c.string_bit-2.ensures) (loaded-iv c.args.key.now c.args.iv.now c.args.j c.if-j-lt160.false)
