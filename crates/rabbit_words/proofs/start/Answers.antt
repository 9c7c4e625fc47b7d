-- `rabbit_words::start` meets its contract: the words are those of S(0) of the state that is kept, which is in range.
-- Assumes nothing.
use mathlib.Core.Path.{◌≡◌, ap, sym, subst, ◌∙◌}
use Rattle.words.specs.Lists.{Byte}
use Rattle.words.proofs.Ranges.{all_known}
use Rattle.rabbit.specs.Cipher.{started}
use Rattle.rabbit.specs.declared.Rabbit.{Rabbit}
use Rattle.rabbit.specs.Range.{InRange}
use Rattle.rabbit.proofs.Ranges.{started-range}
use Rattle.ciphers.specs.States.{rabbit_words, rabbit_state}
use Rattle.ciphers.proofs.States.{rabbit-range}
use Rattle.ciphers.proofs.Along.{lent-fit}
use Rattle.rabbit_words.proofs.start.Goals as goal

pub words-requires : goal.words-requires
words-requires c =
    let fit = lent-fit c.args.kept.now (λ i. (c.type_inv.kept i).fits) c.requires.kept_len.0 c.requires.kept_len.1 in
    subst InRange (sym ((let it : c.start.result ≡ started (rabbit_state c.args.kept.now) c.args.iv.now = c.start.ensures ∙ ap (λ (s : Rabbit). started s c.args.iv.now) c.load.ensures in it))) (started-range (rabbit_state c.args.kept.now) c.args.iv.now (rabbit-range c.args.kept.now fit) (all_known Byte c.args.iv.now (λ i. (c.type_inv.iv i).fits)))

pub returns : goal.returns
returns c = c.words.ensures ∙ ap rabbit_words ((let it : c.start.result ≡ started (rabbit_state c.args.kept.now) c.args.iv.now = c.start.ensures ∙ ap (λ (s : Rabbit). started s c.args.iv.now) c.load.ensures in it))
