-- `card_spelt::key_words` meets its contract: the words before i are those of the key, and zeros come behind the last.
-- Assumes nothing.
use mathlib.Core.Path.{◌≡◌, ap, ◌∙◌}
use mathlib.Core.List.{◌++◌}
use Prim.Native.Nat.{ℕ, ◌-◌, ◌*◌, ◌/◌, ◌≤◌}
use native.Mathlib.Omega.{arith}
use lib.ListN.{length, drop, replicate}
use Rattle.words.specs.Lists.{Byte, tab}
use Rattle.words.specs.Strings.{word_at}
use Rattle.words.proofs.Ranges.{all_known}
use Rattle.words.proofs.Registers.{fill}
use Rattle.card_sizes.specs.Sizes.{state_words}
use Rattle.card_spelt.proofs.Keys.{words-stored}
use borrow.Author.Rules.{rules}
use Rattle.card_spelt.proofs.key_words.Goals as goal

pub loop-i-preserved : goal.loop-i-preserved
loop-i-preserved c =
    rw (c.loop-i.invariant, c.word_at.ensures) (fill c.loop-i.i (λ k. word_at c.args.key.now (4 * k)) (replicate state_words 0) (search rules))

pub returns : goal.returns
returns c =
    let e : c.loop-i.i ≡ length c.args.key.now / 4 = omega arith in
    let n : length c.args.key.now ≡ 4 * (length c.args.key.now / 4) = omega (arith, c.requires.1) in
    let q : length c.args.key.now / 4 ≤ state_words = omega (arith, c.requires.0) in
    c.loop-i.invariant ∙ ap (λ (k : ℕ). tab k (λ i. word_at c.args.key.now (4 * i)) ++ drop k (replicate state_words 0)) e
    ∙ words-stored c.args.key.now (all_known Byte c.args.key.now (λ i. (c.type_inv.key i).fits)) (length c.args.key.now / 4) n q
