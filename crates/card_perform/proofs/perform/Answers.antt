-- `card_perform::perform` meets its contract: each command's own function does what its decision says.
-- Assumes nothing.
use Prim.Native.Nat.{ℕ}
use mathlib.Core.List.{List}
use Rattle.std.specs.Prelude.{Ok}
use mathlib.Core.Path.{◌≡◌, ap, sym, subst, ◌∙◌}
use Rattle.command.specs.declared.Command.{Command}
use Rattle.command.specs.Decode.{decode_of, length_of}
use Rattle.command.proofs.Reading.{Has, read-in, run-has}
use Rattle.machine.specs.Machine.{Call}
use Rattle.card_outcome.specs.declared.Outcome.{Outcome}
use Rattle.card_outcome.specs.Leaves.{call_of, CommandLeaves}
use Rattle.card_perform.proofs.perform.Goals as goal

-- what is so of a command that was read
has : (m : List ℕ) {k k' : Command} → decode_of m ≡ Ok k → k ≡ k' → Has m k'
has m d e = run-has m (decode_of m) _ (d ∙ ap Ok e) (read-in m)

-- what is so of a command is so of the one that it was found to be
found : (ws : List ℕ) {k k' : Command} (a : Call) {r : Outcome} {ws' o : List ℕ} → k ≡ k' → CommandLeaves ws k' a r ws' o → CommandLeaves ws k a r ws' o
found ws a {r} {ws'} {o} e h = subst (λ (x : Command). CommandLeaves ws x a r ws' o) (sym e) h

pub run_tray-requires : goal.run_tray-requires
unfolding length_of
run_tray-requires c =
    let h = has c.args.command.now c.requires.1 c.in-Tray.is in record { sound = (c.requires.0, h.line); tray_length_in_bounds = h.whole }

pub run_own-requires : goal.run_own-requires
unfolding length_of
run_own-requires c =
    let h = has c.args.command.now c.requires.1 c.in-Own.is in record { sound = (c.requires.0, h.line); own_length_in_bounds = h.whole }

pub run_crypt-requires : goal.run_crypt-requires
run_crypt-requires c =
    (c.requires.0, (has c.args.command.now c.requires.1 c.in-Crypt.is).line)

pub run_park-requires : goal.run_park-requires
run_park-requires c =
    (c.requires.0, (has c.args.command.now c.requires.1 c.in-Park.is).line)

pub run_resume-requires : goal.run_resume-requires
unfolding length_of
run_resume-requires c =
    let h = has c.args.command.now c.requires.1 c.in-Resume.is in record { sound = (c.requires.0, h.line); resume_length_in_bounds = h.whole }

pub run_close-requires : goal.run_close-requires
run_close-requires c =
    (c.requires.0, (has c.args.command.now c.requires.1 c.in-Close.is).line)

pub run_change-requires : goal.run_change-requires
unfolding length_of
run_change-requires c =
    let h = has c.args.command.now c.requires.1 c.in-Change.is in record { sound = (c.requires.0, h.line); change_length_in_bounds = h.whole }

pub run_load-requires : goal.run_load-requires
run_load-requires c =
    (c.requires.0, (has c.args.command.now c.requires.1 c.in-Load.is).line)

pub run_start-requires : goal.run_start-requires
unfolding length_of
run_start-requires c =
    let h = has c.args.command.now c.requires.1 c.in-Start.is in record { sound = (c.requires.0, h.line); start_length_in_bounds = h.whole }

pub returns-in-Tray : goal.returns-in-Tray
returns-in-Tray c =
    found c.args.card.now ((call_of c.args.command.now c.args.tray.now c.args.«data».now c.args.out.now)) c.in-Tray.is (c.run_tray.ensures c.args.«data».now c.args.out.now)

pub returns-in-Own : goal.returns-in-Own
returns-in-Own c =
    found c.args.card.now ((call_of c.args.command.now c.args.tray.now c.args.«data».now c.args.out.now)) c.in-Own.is (c.run_own.ensures c.args.«data».now c.args.out.now)

pub returns-in-Crypt : goal.returns-in-Crypt
returns-in-Crypt c =
    found c.args.card.now ((call_of c.args.command.now c.args.tray.now c.args.«data».now c.args.out.now)) c.in-Crypt.is (c.run_crypt.ensures c.args.command.now c.args.tray.now)

pub returns-in-Park : goal.returns-in-Park
returns-in-Park c =
    found c.args.card.now ((call_of c.args.command.now c.args.tray.now c.args.«data».now c.args.out.now)) c.in-Park.is (c.run_park.ensures c.args.command.now c.args.tray.now c.args.«data».now)

pub returns-in-Resume : goal.returns-in-Resume
returns-in-Resume c =
    found c.args.card.now ((call_of c.args.command.now c.args.tray.now c.args.«data».now c.args.out.now)) c.in-Resume.is (c.run_resume.ensures c.args.tray.now c.args.«data».now c.args.out.now)

pub returns-in-Close : goal.returns-in-Close
returns-in-Close c =
    found c.args.card.now ((call_of c.args.command.now c.args.tray.now c.args.«data».now c.args.out.now)) c.in-Close.is (c.run_close.ensures ((call_of c.args.command.now c.args.tray.now c.args.«data».now c.args.out.now)))

pub returns-in-Change : goal.returns-in-Change
returns-in-Change c =
    found c.args.card.now ((call_of c.args.command.now c.args.tray.now c.args.«data».now c.args.out.now)) c.in-Change.is (c.run_change.ensures c.args.«data».now c.args.out.now)

pub returns-in-Load : goal.returns-in-Load
returns-in-Load c =
    found c.args.card.now ((call_of c.args.command.now c.args.tray.now c.args.«data».now c.args.out.now)) c.in-Load.is (c.run_load.ensures c.args.command.now c.args.«data».now c.args.out.now)

pub returns-in-Start : goal.returns-in-Start
returns-in-Start c =
    found c.args.card.now ((call_of c.args.command.now c.args.tray.now c.args.«data».now c.args.out.now)) c.in-Start.is (c.run_start.ensures c.args.tray.now c.args.«data».now c.args.out.now)
