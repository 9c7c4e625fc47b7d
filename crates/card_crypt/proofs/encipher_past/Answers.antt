-- `card_crypt::encipher_past` meets its contract: the old bytes go along the line's stream, the line is renewed, and the rest goes along the new one behind them.
-- Assumes nothing.
use mathlib.Core.Path.{◌≡◌, sym}
use Prim.Native.Nat.{◌≤◌}
use native.Mathlib.Omega.{arith}
use lib.ListN.{length}
use lib.Seq.{length-take-le}
use Rattle.card_crypt.proofs.Past.{old-within, first-asks, second-asks, both-give}
use borrow.Author.Rules.{rules}
use Rattle.card_crypt.proofs.encipher_past.Goals as goal

pub slice_bounds-encipher-end : goal.slice_bounds-encipher-end
slice_bounds-encipher-end c = sym (length-take-le c.args.old c.args.text.now ((let it : c.args.old ≤ length c.args.text.now = old-within c.args.line.now c.args.old c.args.text.now c.args.out.now c.requires in it)))

pub encipher-requires : goal.encipher-requires
encipher-requires c =
    first-asks c.args.line.now c.args.old c.args.text.now c.args.out.now c.requires

pub slice_bounds-encipher-count : goal.slice_bounds-encipher-count
slice_bounds-encipher-count c = (let it : c.args.old ≤ length c.args.text.now = old-within c.args.line.now c.args.old c.args.text.now c.args.out.now c.requires in it)

pub slice_bounds-encipher-start : goal.slice_bounds-encipher-start
slice_bounds-encipher-start c = (let it : c.args.old ≤ length c.args.text.now = old-within c.args.line.now c.args.old c.args.text.now c.args.out.now c.requires in it)

pub slice_bounds-encipher-count-2 : goal.slice_bounds-encipher-count-2
slice_bounds-encipher-count-2 c = (let it : c.args.old ≤ length c.encipher.new.out = let w = (let it : c.args.old ≤ length c.args.text.now = old-within c.args.line.now c.args.old c.args.text.now c.args.out.now c.requires in it) in let e = (let it : length c.encipher.new.out ≡ length c.args.out.now = search rules in it) in omega (arith, w, e, c.requires.asks.room) in it)

pub slice_bounds-encipher-start-2 : goal.slice_bounds-encipher-start-2
slice_bounds-encipher-start-2 c = (let it : c.args.old ≤ length c.encipher.new.out = let w = (let it : c.args.old ≤ length c.args.text.now = old-within c.args.line.now c.args.old c.args.text.now c.args.out.now c.requires in it) in let e = (let it : length c.encipher.new.out ≡ length c.args.out.now = search rules in it) in omega (arith, w, e, c.requires.asks.room) in it)

pub encipher-requires-2 : goal.encipher-requires-2
encipher-requires-2 c =
    second-asks c.args.line.now c.args.old c.args.text.now c.args.out.now c.requires c.encipher.new.line c.renew.new.line c.encipher.new.out c.encipher.ensures c.renew.ensures ((let it : length c.encipher.new.out ≡ length c.args.out.now = search rules in it))

pub returns : goal.returns
returns c =
    both-give c.args.line.now c.args.old c.args.text.now c.args.out.now c.requires c.encipher.new.line c.renew.new.line c.encipher.new.out c.encipher.ensures c.renew.ensures ((let it : length c.encipher.new.out ≡ length c.args.out.now = search rules in it))
    c.encipher-2.new.line c.encipher-2.new.out c.encipher-2.ensures
