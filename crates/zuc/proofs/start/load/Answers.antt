-- `zuc::start::load` meets its contract: the loop fills the register from the front.
-- Assumes nothing.
use Rattle.std.proofs.Common.{◌≡◌, replicate, arith, rules}
use Rattle.words.proofs.Registers.{fill}
use Rattle.zuc.specs.Cipher.{loaded, loaded_cell}
use Rattle.zuc.proofs.start.load.Goals as goal

pub loop-i-preserved : goal.loop-i-preserved
loop-i-preserved c =
    rw (c.cell.ensures, c.loop-i.invariant, c.d-d.ensures)
    (fill c.loop-i.i (loaded_cell c.args.key.now c.args.iv.now) (replicate 16 0) (search rules))

pub returns : goal.returns
unfolding loaded
returns c = let e : c.loop-i.i ≡ 16 = omega arith in rw (c.loop-i.invariant, e)
