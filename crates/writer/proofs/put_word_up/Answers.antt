-- `writer::put_word_up` meets its contract: the bytes of the exclusive or of two words are the exclusive ors of their bytes.
-- Assumes nothing.
use mathlib.Core.Path.{ap, ◌∙◌}
use mathlib.Core.List.{List, ◌++◌}
use Prim.Native.Nat.{ℕ}
use native.Mathlib.Omega.{arith}
use lib.ListN.{drop}
use Rattle.words.specs.Strings.{bytes_up}
use Rattle.writer.proofs.Stores.{up-put}
use Rattle.writer.proofs.put_word_up.Goals as goal

pub returns : goal.returns
unfolding bytes_up
returns c =
    ap (λ (s : List ℕ). s ++ drop 4 c.args.out.now)
    (c.copy_from_slice.ensures.after
    ∙ c.to_le_bytes.ensures
    ∙ up-put c.args.w c.from_le_bytes.result c.args.text.now c.requires.0 (λ i. (c.type_inv.text i).fits) (omega (arith, c.from_le_bytes.ensures)))
