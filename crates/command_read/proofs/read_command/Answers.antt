-- `command_read::read_command` meets its contract: its arms are the forms, in their order; a command of its kind's length has the operands that are read.
-- Assumes nothing.
use Rattle.std.proofs.Common.{rules}
use mathlib.Core.Path.{sym, ◌∙◌}
use native.Mathlib.Omega.{arith}
use Rattle.command.specs.declared.Kind.TheVariants.{Crypt, Change}
use Rattle.command.specs.Decode.{length_of, command_of}
use Rattle.command_read.proofs.Whole.{whole, two_bytes, open_bytes, opens}
use Rattle.command_read.proofs.read_command.Goals as goal

pub bounds-s-1 : goal.bounds-s-1
bounds-s-1 c = let h = two_bytes c.args.kind c.requires in omega (arith, h)

pub read_open-requires : goal.read_open-requires
read_open-requires c = open_bytes c.args.kind c.in-Tray.is c.requires

pub returns-in_err-read_open-in-Tray : goal.returns-in_err-read_open-in-Tray
returns-in_err-read_open-in-Tray c = rw (opens c.args.kind c.args.s.now c.in-Tray.is, sym c.read_open.ensures ∙ c.in_err-read_open-in-Tray.was) (search rules)

pub read_crypt-requires : goal.read_crypt-requires
unfolding length_of
read_crypt-requires c = whole Crypt c.in-Crypt.is c.requires

pub read_change-requires : goal.read_change-requires
unfolding length_of
read_change-requires c = whole Change c.in-Change.is c.requires

pub returns-in_ok-read_open-in-Tray : goal.returns-in_ok-read_open-in-Tray
returns-in_ok-read_open-in-Tray c = sym (opens c.args.kind c.args.s.now c.in-Tray.is ∙ sym c.read_open.ensures ∙ c.in_ok-read_open-in-Tray.was)

pub returns-in-Crypt : goal.returns-in-Crypt
unfolding command_of
returns-in-Crypt c = simp c.in-Crypt.is (sym c.read_crypt.ensures)

pub returns-in-Park : goal.returns-in-Park
unfolding command_of
returns-in-Park c = simp c.in-Park.is

pub returns-in-Resume : goal.returns-in-Resume
unfolding command_of
returns-in-Resume c = simp c.in-Resume.is

pub returns-in-Close : goal.returns-in-Close
unfolding command_of
returns-in-Close c = simp c.in-Close.is

pub returns-in-Change : goal.returns-in-Change
unfolding command_of
returns-in-Change c = simp c.in-Change.is (sym c.read_change.ensures)

pub returns-in-Start : goal.returns-in-Start
unfolding command_of
returns-in-Start c = simp c.in-Start.is
