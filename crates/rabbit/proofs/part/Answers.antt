-- `rabbit::part` meets its contract: an exclusive or goes by halves.
-- Assumes nothing.
use Rattle.std.proofs.Common.{◌≡◌, ℕ, ◌^◌, sym, ap, ◌∙◌, mod-lt, div-add-mod', arith, lit<}
use lib.Bits.{xor_block}
use Rattle.words.specs.Word.{◌⊕◌, ◌∥◌, high, low}
use Rattle.words.specs.Lists.{Word}
use Rattle.rabbit.specs.Cipher.{part}
use Rattle.rabbit.proofs.part.Goals as goal

by-halves : (v w y : ℕ) → Word y → v ⊕ (low w ∥ high y) ≡ part v w y
by-halves v w y h =
    ap (λ (n : ℕ). n ⊕ (low w ∥ high y)) (sym (div-add-mod' v (2 ^ 16)))
    ∙ xor_block 16 (high v) (low w) (low v) (high y) (mod-lt v (lit< tt)) (omega arith)

pub returns : goal.returns
returns c = by-halves c.args.v c.args.w c.args.y c.ranges.y.fits
