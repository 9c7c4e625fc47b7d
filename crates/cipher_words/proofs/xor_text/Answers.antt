-- `cipher_words::xor_text` meets its contract: a crypt over the state that the words hold is one over the words.
-- Assumes nothing.
use mathlib.Core.Path.{sym, subst, ◌∙◌}
use Rattle.keystream.specs.Stream.{Gen}
use Rattle.ciphers.specs.Fit.{Fit}
use Rattle.ciphers.specs.Table.{row_of}
use Rattle.ciphers.proofs.Along.{Gives, row-along, lent-fit}
use Rattle.cipher_words.proofs.Cells.{range-on}
use Rattle.cipher_words.proofs.xor_text.Goals as goal

pub words-requires : goal.words-requires
words-requires g c =
    let f = g.S.Stored.face in
    let l = g.met.S.Stored in
    let fit : Fit (row_of f) c.args.w.now = lent-fit c.args.w.now (λ i. (c.slice_known-1.given i).fits) c.requires.w_len.0 c.requires.w_len.1 in
    let d = subst (λ (k : Gen _). Gives k c.load.result c.args.skip c.args.text.now c.args.out.now c.crypt-after.result c.crypt-after.new.out) (sym l.same) c.crypt-after.ensures in
    range-on f.gen g.S.Stored.range l.laws.next-range _ d.0 (subst g.S.Stored.range (sym c.load.ensures) (l.laws.range c.args.w.now fit))

pub returns : goal.returns
returns g c =
    let f = g.S.Stored.face in
    let l = g.met.S.Stored in
    let fit : Fit (row_of f) c.args.w.now = lent-fit c.args.w.now (λ i. (c.slice_known-1.given i).fits) c.requires.w_len.0 c.requires.w_len.1 in
    let d = subst (λ (k : Gen _). Gives k c.load.result c.args.skip c.args.text.now c.args.out.now c.crypt-after.result c.crypt-after.new.out) (sym l.same) c.crypt-after.ensures in
    row-along f g.S.Stored.range l.laws c.args.skip c.args.text.now c.args.out.now fit c.load.ensures (c.copy_from_slice.ensures.after ∙ c.words.ensures) d
