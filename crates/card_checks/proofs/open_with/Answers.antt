-- `card_checks::open_with` meets its contract: the answers follow the tests in their order.
-- Assumes nothing.
use mathlib.Core.Path.{ap, ap₂, sym, ◌∙◌}
use mathlib.Core.Bool.{Bool}
use mathlib.Core.List.{List}
use Prim.Native.Nat.{ℕ}
use native.Mathlib.Omega.{arith}
use lib.Dec.{leb}
use lib.Seq.{length-take-le, take_all}
use borrow.Author.Tests.{le-leb, lt-leb}
use Rattle.words.specs.Tests.{both}
use Rattle.card_sizes.specs.Sizes.{state_words}
use Rattle.ciphers.specs.Table.{is_cipher, cipher_at}
use Rattle.words.proofs.Tests.{both_false}
use Rattle.ciphers.proofs.Numbers.{read_none, read_is}
use Rattle.machine.specs.Machine.{limit, state_ok}
use Rattle.card_checks.proofs.open_with.Goals as goal

pub returns-then-n-gt-LIMIT : goal.returns-then-n-gt-LIMIT
unfolding state_ok
returns-then-n-gt-LIMIT c =
    let m = (cipher_at c.args.c).admits c.args.w.now in
    sym (both_false (is_cipher c.args.c) (both (leb c.args.n limit) m) (ap (λ (b : Bool). both b m) (lt-leb c.args.n limit c.if-n-gt-LIMIT.true)))

pub returns-in_default : goal.returns-in_default
unfolding state_ok
returns-in_default c = rw (read_none _ (sym c.try_from.ensures ∙ c.in_default.is))

pub slice_bounds-admits-end : goal.slice_bounds-admits-end
unfolding state_ok
slice_bounds-admits-end c = sym (length-take-le state_words c.args.w.now (omega (arith, c.requires)))

pub admits-requires : goal.admits-requires
unfolding state_ok
admits-requires c = length-take-le state_words c.args.w.now (omega (arith, c.requires))

pub returns : goal.returns
unfolding state_ok
returns c =
    let i = read_is _ (sym c.try_from.ensures ∙ c.in-Ok.is) in
    rw (i.1, le-leb _ _ c.if-n-gt-LIMIT.false) (c.admits.ensures ∙ ap₂ (λ (k : ℕ) (l : List ℕ). (cipher_at k).admits l) (sym i.0) (take_all state_words c.args.w.now (omega (arith, c.requires))))
