-- `card_load::start` meets its contract: Rabbit goes on from its state, and the other ciphers from the key that the words spell.
-- Assumes nothing.
use borrow.Enum.Refused.{opened}
use mathlib.Core.Path.{◌≡◌, sym}
use native.Mathlib.Omega.{arith}
use lib.ListN.{length, take}
use lib.Seq.{length-take-le}
use Rattle.card_load.proofs.Sorts.{rabbit-admits, rabbit-started, key-started}
use Rattle.card_load.proofs.start.Goals as goal

pub slice_bounds-start-end : goal.slice_bounds-start-end
slice_bounds-start-end c = sym ((let it : length (take 8 c.args.iv.now) ≡ 8 = length-take-le 8 c.args.iv.now (omega (arith, c.requires.iv_len)) in it))

pub start-requires : goal.start-requires
start-requires c = record { kept_len = (c.requires.kept_len.0, rabbit-admits c.args.kept.now c.in-Rabbit.is c.requires.kept_len.1); iv_len = (let it : length (take 8 c.args.iv.now) ≡ 8 = length-take-le 8 c.args.iv.now (omega (arith, c.requires.iv_len)) in it) }

pub returns-in-Rabbit : goal.returns-in-Rabbit
returns-in-Rabbit c = rabbit-started c.args.kept.now c.args.iv.now c.in-Rabbit.is c.start.ensures

pub returns-in_default : goal.returns-in_default
returns-in_default c =
    key-started c.args.c (opened c.in_default.in_default-own.keys2) c.args.kept.now _ c.start_spelt.ensures
