-- `command_read::read_open` meets its contract: the cipher is read, and the kind says where the key is.
-- Assumes nothing.
use Rattle.std.proofs.Common.{rules}
use mathlib.Core.Path.{sym, ◌∙◌}
use Rattle.command.specs.Decode.{open_of}
use Rattle.command_read.proofs.Whole.{not_one, not_two}
use Rattle.command_read.proofs.read_open.Goals as goal

pub returns-in_err-cipher : goal.returns-in_err-cipher
unfolding open_of
returns-in_err-cipher c = simp (sym c.try_from.ensures ∙ c.in_err-cipher.was) (search rules)

pub returns-in-Tray : goal.returns-in-Tray
unfolding open_of
returns-in-Tray c = simp (c.in-Tray.is, sym c.try_from.ensures ∙ c.in_ok-cipher.was)

pub returns-in-Own : goal.returns-in-Own
unfolding open_of
returns-in-Own c = simp (c.in-Own.is, sym c.try_from.ensures ∙ c.in_ok-cipher.was)

pub returns-in_default : goal.returns-in_default
unfolding open_of
returns-in_default c = simp (sym c.try_from.ensures ∙ c.in_ok-cipher.was, not_one c.args.kind c.in_default.not-Tray, not_two c.args.kind c.in_default.not-Own)
