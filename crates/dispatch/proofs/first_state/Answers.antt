-- `dispatch::first_state` meets its contract: the front of the IV is as long as the cipher's.
-- Assumes nothing.
use Prim.Native.Nat.{ℕ, ◌≤◌}
use mathlib.Core.Path.{ap, sym, ◌∙◌}
use native.Mathlib.Omega.{arith}
use lib.ListN.{length, take}
use lib.Seq.{length-take-le}
use Rattle.ciphers.specs.Table.{cipher_at}
use Rattle.command.specs.Decode.{number_of}
use Rattle.ciphers.proofs.Rows.{iv-fits}
use borrow.Author.Rules.{rules}
use Rattle.dispatch.proofs.first_state.Goals as goal

pub slice_bounds-open-end : goal.slice_bounds-open-end
slice_bounds-open-end c = sym (length-take-le _ c.args.iv.now ((let it : c.iv_of-v.result ≤ length c.args.iv.now = let f = iv-fits (number_of c.args.c) in omega (arith, c.iv_of-v.ensures, c.requires.iv_len, f) in it)))

pub open-requires : goal.open-requires
open-requires c = record { key_len = c.requires.key_len; iv_len = length-take-le _ c.args.iv.now ((let it : c.iv_of-v.result ≤ length c.args.iv.now = let f = iv-fits (number_of c.args.c) in omega (arith, c.iv_of-v.ensures, c.requires.iv_len, f) in it)) ∙ c.iv_of-v.ensures }

pub returns : goal.returns
returns c =
    c.open.ensures ∙ ap (λ (y : ℕ). (cipher_at (number_of c.args.c)).init c.args.key.now (take y c.args.iv.now)) c.iv_of-v.ensures
