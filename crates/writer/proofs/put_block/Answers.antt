-- `writer::put_block` meets its contract: the bytes of the exclusive or of two blocks are the exclusive ors of their bytes.
-- Assumes nothing.
use mathlib.Core.Path.{ap, ◌∙◌}
use mathlib.Core.List.{List, ◌++◌}
use Prim.Native.Nat.{ℕ}
use lib.ListN.{drop}
use Rattle.words.specs.Word.{◌⊕◌}
use Rattle.blocks.specs.Blocks.{spell}
use Rattle.blocks.proofs.Spelling.{spell-xor}
use Rattle.writer.proofs.put_block.Goals as goal

pub returns : goal.returns
returns c =
    c.put_block.ensures
    ∙ ap (λ (x : ℕ). spell (x ⊕ c.args.z) ++ drop 8 c.args.out.now) c.block_at.ensures
    ∙ ap (λ (x : List ℕ). x ++ drop 8 c.args.out.now) (spell-xor c.args.z c.args.text.now c.ranges.z.fits c.requires.0 (λ i. (c.type_inv.text i).fits))
