-- `card_fields::words_in` meets its contract: the first i words are those of the image.
-- Assumes nothing.
use Prim.Native.Nat.{◌+◌, ◌-◌, ◌*◌}
use mathlib.Core.Path.{◌≡◌, sym}
use native.Mathlib.Omega.{arith}
use lib.ListN.{replicate}
use Rattle.words.specs.Strings.{word_at}
use Rattle.words.proofs.Registers.{fill}
use Rattle.machine.proofs.Fields.{image-state}
use borrow.Author.Rules.{rules}
use Rattle.card_fields.proofs.words_in.Goals as goal

pub loop-i-preserved : goal.loop-i-preserved
loop-i-preserved c =
    rw (c.word_at.ensures, c.loop-i.invariant) (fill c.loop-i.i (λ k. word_at c.args.s.now (14 + 4 * k)) (replicate 38 0) (search rules))

pub returns : goal.returns
returns c = let e : c.loop-i.i ≡ 38 = omega arith in rw (c.loop-i.invariant, e) (sym (image-state _))
