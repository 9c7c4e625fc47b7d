-- `rabbit::start::parts` meets its contract.
-- Assumes nothing.
use Rattle.std.proofs.Common.{ℕ, ◌*◌, replicate, arith}
use Rattle.std.proofs.lemmas.List.{length-replicate}
use Rattle.words.proofs.Registers.{fill}
use Rattle.rabbit.specs.Cipher.{half_at}
use Rattle.rabbit.proofs.start.parts.Goals as goal

pub loop-i-preserved : goal.loop-i-preserved
loop-i-preserved g c =
    rw (c.loop-i.invariant, c.half_at.ensures)
    (fill c.loop-i.i (λ j. half_at c.args.s.now (2 * j)) (replicate g.row.N 0) (omega (arith, length-replicate {A = ℕ} g.row.N 0)))
