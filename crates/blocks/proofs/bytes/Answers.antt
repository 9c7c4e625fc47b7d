-- `blocks::bytes` meets its contract: the upper four bytes of a block are those of its left word, the lower four those of its right.
-- Assumes nothing.
use Rattle.std.proofs.Common.{◌≡◌, ℕ, ◌+◌, ◌/◌, ◌%◌, ◌^◌, refl, ◌∙◌, arith}
use lib.Pow.{shr-shr}
use Rattle.words.specs.Strings.{bytes_of}
use Rattle.words.proofs.Registers.{cons}
use Rattle.blocks.specs.Blocks.{spell}
use Rattle.blocks.proofs.bytes.Goals as goal

upper : (x k : ℕ) → x / 2 ^ (32 + k) % 2 ^ 8 ≡ x / 2 ^ 32 / 2 ^ k % 2 ^ 8
upper x k = rw shr-shr refl

pub returns : goal.returns
unfolding spell bytes_of
returns c =
    let x : ℕ = c.args.x in
    c.to_be_bytes.ensures
    ∙ cons (upper x 24) (cons (upper x 16) (cons (upper x 8) (cons refl
    (cons (omega arith) (cons (omega arith) (cons (omega arith) (cons (omega arith) refl)))))))
