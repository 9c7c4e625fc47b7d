-- `Kind::length` of `command` meets its contract: each arm is a row of the table.
-- Assumes nothing.
use Rattle.command.specs.Decode.{length_of}
use Rattle.command.proofs.Kind.length.Goals as goal

pub returns-in-Tray : goal.returns-in-Tray
unfolding length_of
returns-in-Tray c = rw c.in-Tray.is

pub returns-in-Own : goal.returns-in-Own
unfolding length_of
returns-in-Own c = rw c.in-Own.is

pub returns-in-Crypt : goal.returns-in-Crypt
unfolding length_of
returns-in-Crypt c = rw c.in-Crypt.is

pub returns-in-Park : goal.returns-in-Park
unfolding length_of
returns-in-Park c = rw c.in-Park.is

pub returns-in-Resume : goal.returns-in-Resume
unfolding length_of
returns-in-Resume c = rw c.in-Resume.is

pub returns-in-Close : goal.returns-in-Close
unfolding length_of
returns-in-Close c = rw c.in-Close.is

pub returns-in-Change : goal.returns-in-Change
unfolding length_of
returns-in-Change c = rw c.in-Change.is

pub returns-in-Load : goal.returns-in-Load
unfolding length_of
returns-in-Load c = rw c.in-Load.is

pub returns-in-Start : goal.returns-in-Start
unfolding length_of
returns-in-Start c = rw c.in-Start.is
