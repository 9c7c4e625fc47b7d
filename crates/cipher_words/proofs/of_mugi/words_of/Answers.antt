-- `cipher_words::of_mugi::words_of` meets its contract: the halves of each block go behind those of the blocks before it.
-- Assumes nothing.
use mathlib.Core.Path.{◌≡◌, ap, sym, ◌∙◌}
use Prim.Native.Nat.{ℕ, ◌*◌}
use native.Mathlib.Omega.{arith}
use lib.ListN.{length, replicate}
use Rattle.words.proofs.Registers.{listed}
use Rattle.ciphers.specs.States.{halves}
use Rattle.ciphers.proofs.States.{halves-length}
use Rattle.cipher_words.proofs.Blocks.{halves-more}
use borrow.Author.Rules.{rules}
use Rattle.cipher_words.proofs.of_mugi.words_of.Goals as goal

pub loop-i-preserved : goal.loop-i-preserved
loop-i-preserved c = rw (c.right.ensures, c.left.ensures, c.loop-i.invariant) (halves-more c.args.x (replicate 38 0) c.loop-i.i (omega (arith, c.loop-i-test.true)))

pub returns : goal.returns
returns c =
    let n : length c.args.x ≡ 19 = search rules in
    let e : c.loop-i.i ≡ 19 = omega (arith, c.loop-i.auto.i-end, c.loop-i-test.false) in
    rw (c.loop-i.invariant, e) (sym (listed 38 (halves c.args.x) (halves-length c.args.x ∙ ap (λ (k : ℕ). 2 * k) n)))
