-- What a crypt of a text asks of a line's words and of out, and what it leaves of them: in the stream that the line is in, and past a change that waits.
-- Assumes nothing.
use Rattle.std.specs.Prelude.{◌≡◌, true, List, ◌++◌, ℕ, ◌+◌, ◌-◌, ◌≤◌, length, drop}
use Rattle.card_sizes.specs.Sizes.{state_words}
use Rattle.card_moves.specs.Moves.{comes_due, position_on}
use Rattle.machine.specs.Machine.{Line, plain_line, based, shown, along, moved, xored, enciphered, image_ok, open_ok, limit}
use Rattle.card_line.specs.Words.{line_in, line_words, LineHeld}

-- ---- in one stream

-- an open line, and room for the text in its stream and in out
pub record AlongAsks (ws text out : List ℕ) : Type 0 where
  pub held : LineHeld ws
  pub up : (line_in ws).mode ≡ 1
  pub ok : image_ok (line_in ws) ≡ true
  pub within : (line_in ws).n + length text ≤ limit
  pub room : length text ≤ length out

-- the line's words are those of the line as many bytes on, and the text stands enciphered at the start of out
pub record Along (l : Line) (text out line' out' : List ℕ) : Type 0 where
  pub words_are : line' ≡ line_words (shown (along (based l) (length text)))
  pub full : length (shown (along (based l) (length text))).words ≡ state_words
  pub out-is : out' ≡ xored (based l) text ++ drop (length text) out

-- the line at the start of the stream that waited
abbrev pub renewed_line : Line → Line
renewed_line l = plain_line 1 l.cipher 0 l.waiting

-- ---- past a change

pub record CryptAsks (ws text out : List ℕ) : Type 0 where
  pub held : LineHeld ws
  pub up : (line_in ws).mode ≡ 1
  pub ok : open_ok (line_in ws) ≡ true
  pub within : position_on (line_in ws).n (line_in ws).due (length text) ≤ limit
  pub room : length text ≤ length out

-- where it comes due, after old bytes
pub record PastAsks (ws : List ℕ) (old : ℕ) (text out : List ℕ) : Type 0 where
  pub asks : CryptAsks ws text out
  pub comes : comes_due (line_in ws).n (line_in ws).due (length text) ≡ true
  pub old-is : old ≡ (line_in ws).due - (line_in ws).n

-- the line's words are those of the line as many bytes on, whose state is whole, and the text stands enciphered at the start of out
pub record Crypted (l : Line) (text out line' out' : List ℕ) : Type 0 where
  pub words_are : line' ≡ line_words (shown (moved (based l) (length text)))
  pub full : length (shown (moved (based l) (length text))).words ≡ state_words
  pub out-is : out' ≡ enciphered (based l) text ++ drop (length text) out
