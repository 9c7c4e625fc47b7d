-- A card as words: its lines one behind the other, and behind them its parks. All zeros are a fresh card.
-- Assumes nothing.
use Rattle.std.specs.Prelude.{◌≡◌, true, List, [], ◌∷◌, ◌++◌, ℕ, zero, suc, ◌+◌, ◌*◌, ◌<◌, length, take, drop}
use Rattle.card_sizes.specs.Sizes.{line_size, line_count, parks_at, card_size}
use Rattle.machine.specs.Parks.{Parks}
use Rattle.machine.specs.Machine.{Line, Seen, card_ok}
use Rattle.card_line.specs.Words.{line_in, line_words}

-- the words of line i among those of a card
abbrev pub words_at : List ℕ → ℕ → List ℕ
words_at ws i = take line_size (drop (line_size * i) ws)

-- so many lines, one behind the other
abbrev pub lines_in : ℕ → List ℕ → List Line
lines_in zero ws = []
lines_in (suc k) ws = lines_in k ws ++ (line_in (words_at ws k) ∷ [])

abbrev pub lines_words : List Line → List ℕ
lines_words [] = []
lines_words (l ∷ ls) = line_words l ++ lines_words ls

-- the parks that stand in the words behind the lines: for each line how many were made from it, and behind them the numbers held
abbrev pub parks_in : List ℕ → Parks
parks_in ws = record { counts = take line_count ws; held = drop line_count ws }

abbrev pub parks_words : Parks → List ℕ
parks_words p = p.counts ++ p.held

-- the card that stands in words
unfoldable pub card_in : List ℕ → Seen
card_in ws = record { lines = lines_in line_count ws; parks = parks_in (drop parks_at ws) }

-- the words of a card
unfoldable pub card_words : Seen → List ℕ
card_words c = lines_words c.lines ++ parks_words c.parks

-- the words of a card with line i set
unfoldable pub put_line : List ℕ → ℕ → Line → List ℕ
put_line ws i l = take (line_size * i) ws ++ (line_words l ++ drop (line_size * i + line_size) ws)

-- the words of a card with its parks set
unfoldable pub put_parks : List ℕ → Parks → List ℕ
put_parks ws p = take parks_at ws ++ parks_words p

-- the words of the first k lines are those of the lines that they hold
abbrev pub Held : ℕ → List ℕ → Type 0
Held k ws = (j : ℕ) → j < k → line_words (line_in (words_at ws j)) ≡ words_at ws j

-- the words of a card that is as a call leaves it
pub record Sound (ws : List ℕ) : Type 0 where
  pub size : length ws ≡ card_size
  pub ok : card_ok (card_in ws) ≡ true
  pub held : Held line_count ws
