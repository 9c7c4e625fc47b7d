-- `card_keys::key_check` meets its contract: a byte beyond the cipher's lengths gives 7, then a key all zero within its length 16.
-- Assumes nothing.
use Prim.Native.Nat.{◌≤◌}
use mathlib.Core.Path.{◌≡◌, ap, sym, ◌∙◌}
use mathlib.Core.Bool.{false}
use native.Mathlib.Omega.{arith}
use lib.ListN.{length}
use lib.Seq.{length-take-le}
use borrow.Author.Tests.{not-true, not-false}
use Rattle.keystream.proofs.Parts.{tail-part}
use Rattle.ciphers.specs.Table.{all_zero}
use Rattle.command.specs.Decode.{number_of}
use Rattle.machine.specs.Machine.{spare_used}
use Rattle.ciphers.proofs.Rows.{key_fits}
use Rattle.card_keys.proofs.Spare.{spare-key, spare-iv, spare-none, blank-is, code-used, code-blank, code-none}
use borrow.Author.Rules.{rules}
use Rattle.card_keys.proofs.key_check.Goals as goal

pub slice_bounds-all_zero-count : goal.slice_bounds-all_zero-count
slice_bounds-all_zero-count c = (let it : c.key_of-k.result ≤ length c.args.key.now = let f = key_fits (number_of c.args.cipher) in omega (arith, c.key_of-k.ensures, c.requires, f) in it)

pub slice_bounds-all_zero-start : goal.slice_bounds-all_zero-start
slice_bounds-all_zero-start c = let h : c.key_of-k.result ≤ length c.args.key.now = (let it : c.key_of-k.result ≤ length c.args.key.now = let f = key_fits (number_of c.args.cipher) in omega (arith, c.key_of-k.ensures, c.requires, f) in it) in search rules

pub returns-then-not-plain : goal.returns-then-not-plain
returns-then-not-plain c =
    code-used (number_of c.args.cipher) c.args.key.now c.args.iv.now
    (spare-key (number_of c.args.cipher) _ c.args.key.now c.args.iv.now c.key_of-k.ensures
    (sym (ap all_zero (tail-part _ c.args.key.now)) ∙ sym c.all_zero-plain.ensures ∙ not-true _ c.if-not-plain.true-raw))

pub returns-then-not-clear : goal.returns-then-not-clear
returns-then-not-clear c =
    code-used (number_of c.args.cipher) c.args.key.now c.args.iv.now
    (spare-iv (number_of c.args.cipher) _ c.args.key.now c.args.iv.now c.key_of-k.ensures (sym c.iv_clear-clear.ensures ∙ not-true _ c.if-not-clear.true-raw))

pub slice_bounds-all_zero-end-2 : goal.slice_bounds-all_zero-end-2
slice_bounds-all_zero-end-2 c = sym (length-take-le _ c.args.key.now ((let it : c.key_of-k.result ≤ length c.args.key.now = let f = key_fits (number_of c.args.cipher) in omega (arith, c.key_of-k.ensures, c.requires, f) in it)))

pub returns-then-blank : goal.returns-then-blank
returns-then-blank c =
    code-blank (number_of c.args.cipher) c.args.key.now c.args.iv.now ((let it : spare_used (number_of c.args.cipher) c.args.key.now c.args.iv.now ≡ false = spare-none (number_of c.args.cipher) _ c.args.key.now c.args.iv.now c.key_of-k.ensures (sym (ap all_zero (tail-part _ c.args.key.now)) ∙ sym c.all_zero-plain.ensures ∙ not-false _ c.if-not-plain.false-raw) (sym c.iv_clear-clear.ensures ∙ not-false _ c.if-not-clear.false-raw) in it))
    (blank-is (number_of c.args.cipher) c.args.key.now c.key_of-k.ensures (sym c.all_zero-blank.ensures ∙ c.if-blank.true))

pub returns : goal.returns
returns c =
    code-none (number_of c.args.cipher) c.args.key.now c.args.iv.now ((let it : spare_used (number_of c.args.cipher) c.args.key.now c.args.iv.now ≡ false = spare-none (number_of c.args.cipher) _ c.args.key.now c.args.iv.now c.key_of-k.ensures (sym (ap all_zero (tail-part _ c.args.key.now)) ∙ sym c.all_zero-plain.ensures ∙ not-false _ c.if-not-plain.false-raw) (sym c.iv_clear-clear.ensures ∙ not-false _ c.if-not-clear.false-raw) in it))
    (blank-is (number_of c.args.cipher) c.args.key.now c.key_of-k.ensures (sym c.all_zero-blank.ensures ∙ c.if-blank.false))
