-- `command`'s `Cipher::try_from` meets its contract: each arm is a row of the table, and the last what no row has.
-- Assumes nothing.
use borrow.Author.Tests.{ne_eqb}
use Rattle.command.specs.Decode.{read_of}
use Rattle.command.proofs.CipherTryFromU8.try_from.Goals as goal

pub returns-in_default : goal.returns-in_default
unfolding read_of
returns-in_default c = simp (ne_eqb _ _ c.in_default.in_default-own.rest.0.0.0.0.0.1, ne_eqb _ _ c.in_default.in_default-own.rest.0.0.0.0.1, ne_eqb _ _ c.in_default.in_default-own.rest.0.0.0.1, ne_eqb _ _ c.in_default.in_default-own.rest.0.0.1, ne_eqb _ _ c.in_default.in_default-own.rest.0.1, ne_eqb _ _ c.in_default.in_default-own.rest.1)

pub returns-in-1 : goal.returns-in-1
unfolding read_of
returns-in-1 c = rw c.in-1.is

pub returns-in-2 : goal.returns-in-2
unfolding read_of
returns-in-2 c = rw c.in-2.is

pub returns-in-3 : goal.returns-in-3
unfolding read_of
returns-in-3 c = rw c.in-3.is

pub returns-in-4 : goal.returns-in-4
unfolding read_of
returns-in-4 c = rw c.in-4.is

pub returns-in-5 : goal.returns-in-5
unfolding read_of
returns-in-5 c = rw c.in-5.is

pub returns-in-6 : goal.returns-in-6
unfolding read_of
returns-in-6 c = rw c.in-6.is
