-- `card_admits::keeps` meets its contract: each arm asks what its cipher's lines keep.
-- Assumes nothing.
use borrow.Enum.Refused.{opened}
use Rattle.ciphers.specs.Table.{rabbit}
use Rattle.card_admits.proofs.Kept.{keeps-state, keeps-long, keeps-short}
use Rattle.std.proofs.Common.{rules}
use Rattle.card_admits.proofs.keeps.Goals as goal

pub returns-in-Rabbit : goal.returns-in-Rabbit
unfolding rabbit
returns-in-Rabbit c = keeps-state c.args.w.now c.in-Rabbit.is c.rabbit_admits.ensures

pub returns-in-Snow256 : goal.returns-in-Snow256
returns-in-Snow256 c = keeps-long c.args.w.now c.in-Snow256.is c.key_alone.ensures

pub returns-in_default : goal.returns-in_default
returns-in_default c = keeps-short c.args.w.now c.args.c (opened c.in_default.in_default-own.keys3) c.key_alone-in_default.ensures
