-- What is recorded of a call, by its code, its command, the card after it and the bytes of data that it used.
-- Assumes nothing.
use Rattle.std.specs.Prelude.{List, [], ℕ, ◌<◌, ◌≤◌, ◌≡◌, eqb, length, get_or}
use Rattle.words.specs.Tests.{both, pick}
use Rattle.card_sizes.specs.Sizes.{line_count}
use Rattle.machine.specs.Machine.{Seen}
use Rattle.machine.specs.Calls.{line_on}
use Rattle.records.specs.Records.{record_of}

-- of an accepted crypt, whose command begins with 03 and its line, the record of that line, its cipher and the bytes used; of any other call none
unfoldable pub record_for : (code : ℕ) (command : List ℕ) → Seen → (used : ℕ) → List ℕ
record_for code command c used =
    let i = get_or command 1 0 in pick (both (eqb code 0) (eqb (get_or command 0 0) 3)) (record_of i (line_on c i).cipher used) []

-- an accepted command has a first byte, and a line of the card behind it
pub record Named (code : ℕ) (command : List ℕ) : Type 0 where
  pub long : code ≡ 0 → 2 ≤ length command
  pub line : code ≡ 0 → get_or command 1 0 < line_count
