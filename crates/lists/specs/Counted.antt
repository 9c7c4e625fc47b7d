-- What follows for positions and codes in every list of calls from a fresh card: within each stream the positions that are taken follow one another, none passes 2^36, and a crypt that spans a
-- change ends at the number of its bytes after the change.
-- Assumes nothing.
use Rattle.std.specs.Prelude.{ℕ, suc, ◌+◌, ◌-◌, ◌<◌, ◌≤◌, ◌≡◌, List, [], ◌∷◌, ◌++◌, leb, length}
use Rattle.words.specs.Tests.{pick}
use Rattle.machine.specs.Machine.{Line, limit, last_number, fresh_card}
use Rattle.machine.specs.Calls.{Made, card_after, line_on}
use Rattle.lists.specs.Logs.{did, did-crypt, Stream, Log, place_at, log_of}
use Rattle.lists.specs.OneStream.{Stands}

-- joined byte j of a log: the number of its stream, the oldest being 0, and its position in that stream
abbrev pub stream_at : List Stream → ℕ → ℕ
stream_at [] j = 0
stream_at (s ∷ rest) j = pick (leb s.since j) (length rest) (stream_at rest j)

abbrev pub position_at : Log → ℕ → ℕ
position_at g j = (place_at g.streams j).pos

-- The positions that a line's joined bytes have taken since its open or resume.
pub record Positions (g : Log) : Type 0 where
  -- within a stream they follow one another
  pub follow : (j : ℕ) → stream_at g.streams (suc j) ≡ stream_at g.streams j → position_at g (suc j) ≡ suc (position_at g j)
  -- a stream that a change brought begins at 0
  pub begin : (j : ℕ) → (stream_at g.streams (suc j) ≡ stream_at g.streams j → ⊥) → position_at g (suc j) ≡ 0
  -- and none passes 2^36
  pub below : (j : ℕ) → j < length g.ins → position_at g j < limit

-- line i before a call
abbrev pub line_before : ℕ → List Made → Line
line_before i before = line_on (card_after fresh_card before) i

-- A crypt on line i takes the positions from where its line stands on, one for each byte of its input, along its stream or past the change that waited; it joins its input to what its line was
-- given, and the streams stay.
pub record Takes (i : ℕ) (before : List Made) (x : Made) (input : List ℕ) : Type 0 where
  pub begins : (line_before i before).n ≡ position_at (log_of i before) (length (log_of i before).ins)
  -- where no change comes due it ends as many bytes on
  pub ends : ((line_before i before).n < (line_before i before).due → (line_before i before).n + length input < (line_before i before).due) →
      (line_on x.card i).n ≡ (line_before i before).n + length input
  -- where one does it ends at the number of its bytes after the change, and nothing waits
  pub past-change : (line_before i before).n < (line_before i before).due → (line_before i before).due ≤ (line_before i before).n + length input →
      ((line_on x.card i).n ≡ (line_before i before).n + length input - (line_before i before).due) × ((line_on x.card i).due ≡ 0)
  pub since : (log_of i (before ++ (x ∷ []))).streams ≡ (log_of i before).streams
  pub inputs : (log_of i (before ++ (x ∷ []))).ins ≡ (log_of i before).ins ++ input

-- The list xs, from a fresh card: no position comes round, and no card is damaged.
pub record Counted (xs : List Made) : Type 0 where
  pub takes : {before : List Made} {x : Made} → Stands before x xs → (i : ℕ) (input output : List ℕ) → did x ≡ did-crypt i input output → Takes i before x input
  -- each line's positions
  pub positions : (i : ℕ) → Positions (log_of i xs)
  -- after the list no line stands past 2^36
  pub within : (i : ℕ) → (line_on (card_after fresh_card xs) i).n ≤ limit
  -- every code is 0 or a number from 1 to 18
  pub codes : {before : List Made} {x : Made} → Stands before x xs → x.code ≤ last_number
