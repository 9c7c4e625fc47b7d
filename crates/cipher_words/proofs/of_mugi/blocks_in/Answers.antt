-- `cipher_words::of_mugi::blocks_in` meets its contract: each block is that of its two words.
-- Assumes nothing.
use mathlib.Core.Path.{◌≡◌}
use native.Mathlib.Omega.{arith}
use lib.ListN.{replicate}
use Rattle.words.proofs.Registers.{fill}
use Rattle.ciphers.specs.States.{block_in}
use borrow.Author.Rules.{rules}
use Rattle.cipher_words.proofs.of_mugi.blocks_in.Goals as goal

pub loop-i-preserved : goal.loop-i-preserved
loop-i-preserved c = rw (c.join.ensures, c.loop-i.invariant) (fill c.loop-i.i (block_in c.args.w.now) (replicate 19 0) (search rules))

pub returns : goal.returns
returns c = let e : c.loop-i.i ≡ 19 = omega (arith, c.loop-i.auto.i-end, c.loop-i-test.false) in rw (c.loop-i.invariant, e)
