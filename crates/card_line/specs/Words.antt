-- A line as words: its mode, its cipher, n in two words, the words of the state, the position of a change that waits in two words, and the words of its stream's S(0). All zeros are an idle line.
-- Assumes nothing.
use Rattle.std.specs.Prelude.{◌≡◌, List, ◌∷◌, ◌++◌, ℕ, ◌+◌, ◌*◌, ◌/◌, ◌%◌, ◌^◌, min, length, get_or}
use Rattle.words.specs.Lists.{tab}
use Rattle.card_sizes.specs.Sizes.{state_words, head_words, due_at, waiting_at, line_size}
use Rattle.machine.specs.Machine.{Line}

-- the line that stands in words; a mode or a cipher over 255 counts as 255, which none has
unfoldable pub line_in : List ℕ → Line
line_in ws =
    record {
      mode = min (get_or ws 0 0) 255;
      cipher = min (get_or ws 1 0) 255;
      n = get_or ws 2 0 * 2 ^ 32 + get_or ws 3 0;
      words = tab state_words (λ k. get_or ws (head_words + k) 0);
      due = get_or ws due_at 0 * 2 ^ 32 + get_or ws (due_at + 1) 0;
      waiting = tab state_words (λ k. get_or ws (waiting_at + k) 0);
    }

-- the words of a line
unfoldable pub line_words : Line → List ℕ
line_words l = l.mode ∷ l.cipher ∷ l.n / 2 ^ 32 ∷ l.n % 2 ^ 32 ∷ (l.words ++ (l.due / 2 ^ 32 ∷ l.due % 2 ^ 32 ∷ l.waiting))

-- the line with a change that waits at p, to the stream of S(0) s
abbrev pub with_change : Line → ℕ → List ℕ → Line
with_change l p s = record { mode = l.mode; cipher = l.cipher; n = l.n; words = l.words; due = p; waiting = s }

-- words that are a line's, and nothing else
pub record LineHeld (ws : List ℕ) : Type 0 where
  pub size : length ws ≡ line_size
  pub words : line_words (line_in ws) ≡ ws
