-- `rabbit_words::keep` meets its contract: the words are those of the key's state, which is in range.
-- Assumes nothing.
use mathlib.Core.Path.{ap, sym, subst, ◌∙◌}
use Rattle.words.specs.Lists.{Byte}
use Rattle.words.proofs.Ranges.{all_known}
use Rattle.rabbit.specs.Range.{InRange}
use Rattle.rabbit.proofs.Ranges.{master-range}
use Rattle.ciphers.specs.States.{rabbit_words}
use Rattle.rabbit_words.proofs.keep.Goals as goal

pub words-requires : goal.words-requires
words-requires c =
    subst InRange (sym c.master.ensures) (master-range c.args.key.now (all_known Byte c.args.key.now (λ i. (c.type_inv.key i).fits)))

pub returns : goal.returns
returns c = c.words.ensures ∙ ap rabbit_words c.master.ensures
