-- A run of the C entry: calls of `pipeshear_call` on one array of words, each on the words that the call before it left, with counts of three places.
-- Assumes nothing.
use Rattle.std.specs.Prelude.{◌≡◌, List, [], ◌∷◌, ℕ, length, get_or}
use Rattle.machine.specs.Machine.{Call}
use Rattle.machine.specs.Calls.{Made}
use Rattle.card_layout.specs.Words.{card_in}
use Rattle.pipeshear.specs.Calls.{EntryPromise}

-- a call and what it left
abbrev pub recorded_on : Call → ℕ → (ws out counts : List ℕ) → Made
recorded_on a code ws out counts =
    record {
      call = a;
      code = code;
      used-command = get_or counts 0 0;
      used-data = get_or counts 1 0;
      written = get_or counts 2 0;
      out = out;
      card = card_in ws;
    }

pub data RanOn : List ℕ → List Made → Type 0 where
  none : {ws : List ℕ} → RanOn ws []
  call : {ws : List ℕ} {a : Call} {counts : List ℕ} {code : ℕ} {ws' out' counts' : List ℕ} {xs : List Made} →
      length counts ≡ 3 → EntryPromise ws a counts code ws' out' counts' → RanOn ws' xs → RanOn ws (recorded_on a code ws' out' counts' ∷ xs)
