-- `writer::put_part` meets its contract: each byte goes behind those before it.
-- Assumes nothing.
use mathlib.Core.Path.{◌≡◌, refl, ap, sym, ◌∙◌}
use mathlib.Core.List.{List, ◌++◌}
use Prim.Native.Nat.{ℕ, ◌+◌}
use native.Mathlib.Numerals.{add-one}
use native.Mathlib.Omega.{arith}
use lib.ListN.{get_or, take, drop, set}
use Rattle.words.specs.Word.{◌⊕◌}
use Rattle.keystream.specs.Stream.{xor_from}
use Rattle.keystream.proofs.Laws.{fill-byte}
use Rattle.writer.proofs.put_part.Goals as goal

pub loop-i-init : goal.loop-i-init
unfolding xor_from
loop-i-init c = refl

pub loop-i-preserved : goal.loop-i-preserved
loop-i-preserved c =
    ap (λ (o : List ℕ). set o c.loop-i.i (get_or c.args.text.now c.loop-i.i 0 ⊕ get_or c.args.ks.now (c.args.from + c.loop-i.i) 0)) c.loop-i.invariant
    ∙ fill-byte (λ j. get_or c.args.ks.now j 0) c.args.from c.loop-i.i c.args.text.now c.args.out.now (omega (arith, c.loop-i-test.true)) (omega (arith, c.loop-i-test.true))
    ∙ ap (λ (k : ℕ). xor_from (λ j. get_or c.args.ks.now j 0) c.args.from (take k c.args.text.now) ++ drop k c.args.out.now) (sym (add-one c.loop-i.i))

pub returns : goal.returns
returns c =
    let e : c.loop-i.i ≡ c.args.count = omega (arith, c.loop-i.auto.i-end, c.loop-i-test.false) in
    c.loop-i.invariant ∙ ap (λ (k : ℕ). xor_from (λ j. get_or c.args.ks.now j 0) c.args.from (take k c.args.text.now) ++ drop k c.args.out.now) e
