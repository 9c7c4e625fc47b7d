-- `writer::put_word` meets its contract: the bytes of the exclusive or of two words are the exclusive ors of their bytes.
-- Assumes nothing.
use mathlib.Core.Path.{ap, ◌∙◌}
use mathlib.Core.List.{List, ◌++◌}
use Prim.Native.Nat.{ℕ}
use native.Mathlib.Omega.{arith}
use lib.ListN.{drop}
use Rattle.words.specs.Strings.{bytes_of}
use Rattle.writer.proofs.Stores.{word-put}
use Rattle.writer.proofs.put_word.Goals as goal

pub returns : goal.returns
unfolding bytes_of
returns c =
    ap (λ (s : List ℕ). s ++ drop 4 c.args.out.now)
    (c.copy_from_slice.ensures.after
    ∙ c.to_be_bytes.ensures
    ∙ word-put c.args.w c.from_be_bytes.result c.args.text.now c.requires.0 (λ i. (c.type_inv.text i).fits) (omega (arith, c.from_be_bytes.ensures)))
