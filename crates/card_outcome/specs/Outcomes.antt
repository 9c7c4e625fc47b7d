-- The outcomes of a call, as the code gives them.
-- Assumes nothing.
use Rattle.std.specs.Prelude.{ℕ, ◌≤◌, length, Result, Ok, Err}
use Rattle.command.specs.declared.Refusal.{Refusal}
use Rattle.command.specs.Decode.{refusal_number}
use Rattle.machine.specs.Machine.{last_number, Reply}
use Rattle.card_outcome.specs.declared.Counts.{Counts}
use Rattle.card_outcome.specs.declared.Outcome.{Outcome}

-- a refusal: three zeros
abbrev pub refusal : ℕ → Outcome
refusal k = record { code = k; used_command = 0; used_data = 0; written = 0 }

-- an accepted call: the bytes used of the command and of data, and the bytes written
abbrev pub acceptance : ℕ → ℕ → ℕ → Outcome
acceptance c d w = record { code = 0; used_command = c; used_data = d; written = w }

-- the outcome of a call that is refused, or accepted with these counts
abbrev pub outcome_for : Result Counts Refusal → Outcome
outcome_for (Ok c) = acceptance c.used_command c.used_data c.written
outcome_for (Err e) = refusal (refusal_number e)

-- the machine's outcome, its written bytes counted
unfoldable pub outcome_of : Reply → Outcome
outcome_of o = record { code = o.code; used_command = o.used-command; used_data = o.used-data; written = length o.output }

-- the codes: 0 and document 01's numbers, and 255 for a damaged card
pub data Code : ℕ → Type 0 where
  listed : {k : ℕ} → k ≤ last_number → Code k
  damaged : Code 255
