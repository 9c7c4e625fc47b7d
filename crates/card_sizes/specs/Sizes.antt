-- The sizes of a state, a line, a card, an image, a key, an IV and the commands, and where the parts of a command and of an image begin; each follows from those above it.
-- Assumes nothing.
use Rattle.std.specs.Prelude.{ℕ, ◌+◌, ◌*◌, ◌^◌}

-- the words of a state
abbrev pub state_words : ℕ
state_words = 38

-- the words before a line's state: its mode, its cipher and its position in two
abbrev pub head_words : ℕ
head_words = 4

-- the words before the position of a change that waits: the head and the state
abbrev pub due_at : ℕ
due_at = head_words + state_words

-- and before the state that the waiting stream begins with: the position in two
abbrev pub waiting_at : ℕ
waiting_at = due_at + 2

-- the words of a line
abbrev pub line_size : ℕ
line_size = waiting_at + state_words

-- the lines of a card
abbrev pub line_count : ℕ
line_count = 8

-- the words before a card's parks: its lines
abbrev pub parks_at : ℕ
parks_at = line_size * line_count

-- and before the numbers that it holds: for each line how many parks were made from it
abbrev pub held_at : ℕ
held_at = parks_at + line_count

-- the words of a card: for each line the number last parked from it stands at the end
abbrev pub card_size : ℕ
card_size = held_at + line_count

-- the bytes before the line that parked an image: its cipher and its position in eight
abbrev pub image_from_at : ℕ
image_from_at = 9

-- before the number of its park: the line in one
abbrev pub image_number_at : ℕ
image_number_at = image_from_at + 1

-- and before its state: the number in four
abbrev pub image_state : ℕ
image_state = image_number_at + 4

-- the bytes of an image
abbrev pub image_length : ℕ
image_length = image_state + 4 * state_words

-- document 01's 2^36, which no position passes
abbrev pub limit : ℕ
limit = 2 ^ 36

-- the bytes of a key and of an IV, in a tray and in a command
abbrev pub key_length : ℕ
key_length = 32

abbrev pub iv_length : ℕ
iv_length = 16

-- the bytes of the longest tray: a key number is a byte
abbrev pub full_tray : ℕ
full_tray = 256 * key_length

-- an open from the tray: kind, line, cipher, key number, IV
abbrev pub tray_iv : ℕ
tray_iv = 4

abbrev pub tray_length : ℕ
tray_length = tray_iv + iv_length

-- an open with its own key: kind, line, cipher, key, IV
abbrev pub own_key : ℕ
own_key = 3

abbrev pub own_iv : ℕ
own_iv = own_key + key_length

abbrev pub own_length : ℕ
own_length = own_iv + iv_length

-- a crypt: kind, line, count in two
abbrev pub crypt_length : ℕ
crypt_length = 4

-- a park and a close: kind, line
abbrev pub park_length : ℕ
park_length = 2

abbrev pub close_length : ℕ
close_length = 2

-- a change of key: kind, line, key number, IV, position in eight
abbrev pub change_iv : ℕ
change_iv = 3

abbrev pub change_at : ℕ
change_at = change_iv + iv_length

abbrev pub change_length : ℕ
change_length = change_at + 8

-- a resume: kind, line, image
abbrev pub resume_image : ℕ
resume_image = 2

abbrev pub resume_length : ℕ
resume_length = resume_image + image_length

-- a load: kind, line, cipher, key number
abbrev pub load_length : ℕ
load_length = 4

-- a start: kind, line, IV
abbrev pub start_iv : ℕ
start_iv = 2

abbrev pub start_length : ℕ
start_length = start_iv + iv_length
