-- The edges of document 01, and of its parks, changes of key, loads and starts by document 02, on whole calls: real command bytes on a card of eight lines, and for each call its code, its three counts and,
-- where it is accepted, what the lines and the parks are after it.
-- Assumes nothing.
use Rattle.std.specs.Prelude.{List, [], ◌∷◌, ◌++◌, map, ℕ, zero, suc, ◌+◌, ◌-◌, ◌/◌, ◌%◌, ◌^◌, length, get_or, take, replicate, set}
use Rattle.card_sizes.specs.Sizes.{state_words, image_length, resume_length}
use Rattle.machine.specs.Machine.{Line, Seen, Call, plain_line, idle_line, card_step}
use Rattle.machine.specs.Parks.{Parks, fresh_parks, last_park}
use Rattle.edges.specs.Table.{tray_of}

-- what is computed of a call, and what document 01 says
pub record Step : Type 0 where
  pub computed : List ℕ
  pub stated : List ℕ

infix 70 ◌gives◌
abbrev pub ◌gives◌ : List ℕ → List ℕ → Step
a gives b = record { computed = a; stated = b }

-- ---- the card

-- the end of a stream, and its last position
abbrev end : ℕ
end = 2 ^ 36

abbrev last : ℕ
last = 2 ^ 36 - 1

abbrev zeros : ℕ → List ℕ
zeros n = replicate n 0

-- a state of zeros
abbrev blank : List ℕ
blank = zeros state_words

abbrev open_line : (cipher n : ℕ) → List ℕ → Line
open_line c n w = plain_line 1 c n w

-- with a change that waits at position d for the stream of S(0) s
abbrev before_change : (cipher n : ℕ) → List ℕ → (d : ℕ) → List ℕ → Line
before_change c n w d s = record { mode = 1; cipher = c; n = n; words = w; due = d; waiting = s }

-- ZUC's sixteen cells, each 1, and zeros behind them
abbrev cells : List ℕ
cells = replicate 16 1 ++ zeros 22

-- three parks of line 0, seven of line 2, and so many of line 7
abbrev counts : ℕ → List ℕ
counts k = 3 ∷ 0 ∷ 7 ∷ zeros 4 ++ (k ∷ [])

-- lines 0, 1 and 6 are idle; 2 is open with ZUC within a unit, 3 with Rabbit at a unit's end, 4 with SNOW 2.0 before the last position, 5 with MUGI behind it, 7 with KCipher-2 at its start; of lines 0, 2 and 7 three, seven and two parks were
-- made, and 3 of line 0 and 7 of line 2 are held
abbrev pub eight : Seen
eight =
    record {
      lines =
          idle_line ∷ idle_line ∷ open_line 1 5 cells ∷ open_line 2 16 blank ∷ open_line 3 last blank ∷ open_line 6 end blank ∷ idle_line
          ∷ open_line 5 0 blank ∷ [];
      parks = record { counts = counts 2; held = 3 ∷ 0 ∷ 7 ∷ zeros 5 };
    }

-- that card with line i another
abbrev with : ℕ → Line → Seen
with i l = record { lines = set eight.lines i l; parks = eight.parks }

-- and with other parks
abbrev after : Parks → Seen
after p = record { lines = eight.lines; parks = p }

-- and with line 7 another, so many parks of it, and other numbers held
abbrev held : Line → (count : ℕ) → List ℕ → Seen
held l k ns = record { lines = set eight.lines 7 l; parks = record { counts = counts k; held = ns } }

-- that card with line 4 two bytes before the end of its stream, and there a change that waits; SNOW 2.0's unit of a word and zeros is that word
abbrev waiting : Seen
waiting = with 4 (before_change 3 (end - 2) (set blank 0 0x01020304) end (set blank 0 0x05060708))

-- that card with line 1 loaded with Rabbit and line 6 with SNOW 2.0, its key's last word alone not 0
abbrev loaded_two : Seen
loaded_two = record { lines = set (with 6 (plain_line 2 3 0 (set blank 3 1))).lines 1 (plain_line 2 2 0 blank); parks = eight.parks }

-- ---- commands in bytes

abbrev crypt : (i count : ℕ) → List ℕ
crypt i n = 3 ∷ i ∷ n / 256 ∷ n % 256 ∷ []

abbrev park : ℕ → List ℕ
park i = 4 ∷ i ∷ []

abbrev close : ℕ → List ℕ
close i = 6 ∷ i ∷ []

-- a key and an IV of so many ones, zeros behind them
abbrev ones : (size n : ℕ) → List ℕ
ones size n = replicate n 1 ++ zeros (size - n)

abbrev from_tray : (i cipher number iv : ℕ) → List ℕ
from_tray i c k v = 1 ∷ i ∷ c ∷ k ∷ ones 16 v

abbrev own : (i cipher key iv : ℕ) → List ℕ
own i c k v = 2 ∷ i ∷ c ∷ (ones 32 k ++ ones 16 v)

-- key number k of the tray, and an IV of so many ones; the position's fifth byte from its end and its last
abbrev change : (i number iv high low : ℕ) → List ℕ
change i k v h l = 7 ∷ i ∷ k ∷ (ones 16 v ++ (0 ∷ 0 ∷ 0 ∷ h ∷ 0 ∷ 0 ∷ 0 ∷ l ∷ []))

abbrev load : (i cipher number : ℕ) → List ℕ
load i c k = 8 ∷ i ∷ c ∷ k ∷ []

-- an IV of so many ones
abbrev start : (i iv : ℕ) → List ℕ
start i v = 9 ∷ i ∷ ones 16 v

-- a state's 152 bytes: words of the one byte that is given, zeros behind them
abbrev spelled : (words byte : ℕ) → List ℕ
spelled zero b = []
spelled (suc k) b = 0 ∷ 0 ∷ 0 ∷ b ∷ spelled k b

-- an image: the cipher, the position's fifth byte from its end and its last, the line that parked it, the park's number, and the state
abbrev image : (cipher high low from number : ℕ) → List ℕ → List ℕ
image c h l j k w = c ∷ 0 ∷ 0 ∷ 0 ∷ h ∷ 0 ∷ 0 ∷ 0 ∷ l ∷ j ∷ 0 ∷ 0 ∷ 0 ∷ k ∷ w

-- with a line and a number that is held of it
abbrev resume : (i cipher high low : ℕ) → List ℕ → List ℕ
resume i c h l w = 5 ∷ i ∷ image c h l 0 3 w

-- that of line 7's state, with a parking line and number k
abbrev image_for : (from number : ℕ) → List ℕ
image_for j k = image 5 0 0 j k (spelled state_words 0)

abbrev bring : (i from number : ℕ) → List ℕ
bring i j k = 5 ∷ i ∷ image_for j k

-- ---- a call, and what came of it

-- lent a tray of so many bytes, and so many zeros as data and out
abbrev pub lent : (command : List ℕ) (tray text out : ℕ) → Call
lent c t d o = record { command = c; tray = tray_of t; text = zeros d; out = zeros o }

-- lent these bytes as tray, and no others
abbrev keyed : (command tray : List ℕ) → Call
keyed c t = record { command = c; tray = t; text = []; out = [] }

-- lent these bytes as data, and room for as many
abbrev fed : (command text : List ℕ) → Call
fed c d = record { command = c; tray = []; text = d; out = zeros (length d) }

-- its code and its three counts
unfoldable pub answer : Seen → Call → List ℕ
answer c a = let o = (card_step c a).outcome in o.code ∷ o.used-command ∷ o.used-data ∷ length o.output ∷ []

-- the modes and the positions of the lines after it
unfoldable pub modes : Seen → Call → List ℕ
modes c a = map (λ (l : Line). l.mode) (card_step c a).card.lines

unfoldable pub positions : Seen → Call → List ℕ
positions c a = map (λ (l : Line). l.n) (card_step c a).card.lines

-- those of the changes that wait, and the state of line i
unfoldable pub dues : Seen → Call → List ℕ
dues c a = map (λ (l : Line). l.due) (card_step c a).card.lines

unfoldable pub state_on : ℕ → Seen → Call → List ℕ
state_on i c a = (get_or (card_step c a).card.lines i idle_line).words

-- the card after it
unfoldable pub done : Seen → Call → Seen
done c a = (card_step c a).card

-- how many parks were made from each line, and the numbers held; after it
abbrev numbers_on : Seen → List ℕ
numbers_on c = c.parks.counts ++ c.parks.held

unfoldable pub numbers : Seen → Call → List ℕ
numbers c a = numbers_on (card_step c a).card

-- the bytes that it wrote
unfoldable pub writes : Seen → Call → List ℕ
writes c a = (card_step c a).outcome.output

-- a refusal: its number and three zeros
abbrev refusal : ℕ → List ℕ
refusal k = k ∷ 0 ∷ 0 ∷ 0 ∷ []

-- an accepted call: 0, the bytes used of the command and of data, the bytes written
abbrev accepted : ℕ → ℕ → ℕ → List ℕ
accepted c d w = 0 ∷ c ∷ d ∷ w ∷ []

-- ---- the rows

-- 1, 2, 1, 3, 4: how a command is read
unfoldable pub reads : List Step
reads =
    answer eight (lent [] 0 0 0) gives refusal 1
    ∷ answer eight (lent (0 ∷ []) 0 0 0) gives refusal 2
    ∷ answer eight (lent (10 ∷ []) 0 0 0) gives refusal 2
    ∷ answer eight (lent (7 ∷ []) 0 0 0) gives refusal 1
    ∷ answer eight (lent (take 3 (load 8 7 0)) 0 0 0) gives refusal 1
    ∷ answer eight (lent (load 8 7 0) 0 0 0) gives refusal 3
    ∷ answer eight (lent (load 2 7 0) 0 0 0) gives refusal 4
    ∷ answer eight (lent (take 17 (start 8 16)) 0 0 0) gives refusal 1
    ∷ answer eight (lent (start 8 16) 0 0 0) gives refusal 3
    ∷ answer eight (lent (3 ∷ 2 ∷ 0 ∷ []) 0 0 0) gives refusal 1
    ∷ answer eight (lent (6 ∷ []) 0 0 0) gives refusal 1
    -- cut short before a line over 7
    ∷ answer eight (lent (3 ∷ 8 ∷ []) 0 0 0) gives refusal 1
    ∷ answer eight (lent (take 26 (change 8 0 16 0 5)) 32 0 0) gives refusal 1
    ∷ answer eight (lent (change 8 0 16 0 5) 32 0 0) gives refusal 3
    ∷ answer eight (lent (close 8) 0 0 0) gives refusal 3
    ∷ answer eight (lent (close 255) 0 0 0) gives refusal 3
    -- a line over 7 before an unknown cipher
    ∷ answer eight (lent (own 8 7 16 16) 0 0 0) gives refusal 3
    ∷ answer eight (lent (own 0 0 16 16) 0 0 0) gives refusal 4
    ∷ answer eight (lent (own 0 7 16 16) 0 0 0) gives refusal 4
    -- 4 before 5
    ∷ answer eight (lent (own 2 7 16 16) 0 0 0) gives refusal 4
    -- what is behind the command is not used
    ∷ answer eight (lent (close 2 ++ close 3) 0 0 0) gives accepted 2 0 0
    ∷ []

-- 5 and 6, and a close
unfoldable pub openness : List Step
openness =
    answer eight (lent (from_tray 2 1 0 16) 33 0 0) gives refusal 5
    ∷ answer eight (lent (own 7 1 17 16) 0 0 0) gives refusal 5
    ∷ answer eight (lent (resume 2 0 0 0 (spelled state_words 0)) 0 0 0) gives refusal 5
    ∷ answer eight (lent (crypt 0 1) 0 0 0) gives refusal 6
    ∷ answer eight (lent (park 1) 0 0 0) gives refusal 6
    ∷ answer eight (lent (close 6) 0 0 0) gives refusal 6
    ∷ modes eight (lent (close 7) 0 0 0) gives (0 ∷ 0 ∷ 1 ∷ 1 ∷ 1 ∷ 1 ∷ 0 ∷ 0 ∷ [])
    ∷ modes eight (lent (close 6) 0 0 0) gives (0 ∷ 0 ∷ 1 ∷ 1 ∷ 1 ∷ 1 ∷ 0 ∷ 1 ∷ [])
    ∷ []

-- 9, 10, 7, 16, and the opens that pass
unfoldable pub opens : List Step
opens =
    answer eight (lent (from_tray 0 1 0 16) 33 0 0) gives refusal 9
    ∷ answer eight (lent (from_tray 0 1 255 16) 8224 0 0) gives refusal 9
    ∷ answer eight (lent (from_tray 0 1 0 16) 0 0 0) gives refusal 10
    -- 10 before 7: an IV with a byte too many
    ∷ answer eight (lent (from_tray 0 2 1 9) 32 0 0) gives refusal 10
    ∷ answer eight (lent (from_tray 0 2 0 9) 32 0 0) gives refusal 7
    ∷ answer eight (lent (from_tray 0 2 0 8) 32 0 0) gives accepted 20 0 0
    ∷ answer eight (lent (from_tray 6 1 255 16) 8192 0 0) gives accepted 20 0 0
    ∷ answer eight (lent (own 0 3 17 16) 0 0 0) gives refusal 7
    ∷ answer eight (lent (own 0 3 16 16) 0 0 0) gives accepted 51 0 0
    ∷ answer eight (lent (own 0 4 32 16) 0 0 0) gives accepted 51 0 0
    ∷ answer eight (lent (own 0 2 16 9) 0 0 0) gives refusal 7
    -- a key that is all zero in the cipher's own length, from the tray and from the command
    ∷ answer eight (keyed (from_tray 0 1 0 16) (zeros 32)) gives refusal 16
    ∷ answer eight (keyed (from_tray 0 4 1 16) (ones 32 32 ++ zeros 32)) gives refusal 16
    ∷ answer eight (lent (own 0 2 0 8) 0 0 0) gives refusal 16
    ∷ answer eight (lent (own 0 4 0 16) 0 0 0) gives refusal 16
    -- 7 before 16: a byte beyond the key's length, and one beyond the IV's
    ∷ answer eight (keyed (from_tray 0 1 0 16) (zeros 16 ++ ones 16 1)) gives refusal 7
    ∷ answer eight (lent (own 0 2 0 9) 0 0 0) gives refusal 7
    -- the key's last byte alone is not 0
    ∷ answer eight (keyed (from_tray 0 1 0 16) (zeros 15 ++ ones 17 1)) gives accepted 20 0 0
    ∷ answer eight (keyed (from_tray 0 4 0 16) (zeros 31 ++ ones 1 1)) gives accepted 20 0 0
    ∷ modes eight (lent (from_tray 6 1 0 16) 32 0 0) gives (0 ∷ 0 ∷ 1 ∷ 1 ∷ 1 ∷ 1 ∷ 1 ∷ 1 ∷ [])
    ∷ []

-- 8, and the images that pass
unfoldable pub images : List Step
images =
    answer eight (lent (resume 0 0 0 0 (spelled state_words 0)) 0 0 0) gives refusal 8
    ∷ answer eight (lent (resume 0 7 0 0 (spelled state_words 0)) 0 0 0) gives refusal 8
    ∷ answer eight (lent (resume 0 6 16 1 (spelled state_words 0)) 0 0 0) gives refusal 8
    ∷ answer eight (lent (resume 0 6 16 0 (spelled state_words 0)) 0 0 0) gives accepted resume_length 0 0
    -- a cell of 0, and one of 2^31
    ∷ answer eight (lent (resume 0 1 0 5 (spelled state_words 0)) 0 0 0) gives refusal 8
    ∷ answer eight (lent (resume 0 1 0 5 (128 ∷ 0 ∷ 0 ∷ 1 ∷ spelled 15 1 ++ spelled 22 0)) 0 0 0) gives refusal 8
    ∷ answer eight (lent (resume 0 1 0 5 (spelled 16 1 ++ spelled 22 0)) 0 0 0) gives accepted resume_length 0 0
    -- padding, and Rabbit's carry
    ∷ answer eight (lent (resume 0 1 0 5 (spelled 16 1 ++ (spelled 2 0 ++ spelled 20 1))) 0 0 0) gives refusal 8
    ∷ answer eight (lent (resume 0 2 0 0 (spelled 16 0 ++ (2 ∷ 0 ∷ 0 ∷ 0 ∷ spelled 21 0))) 0 0 0) gives refusal 8
    ∷ answer eight (lent (resume 0 2 0 0 (spelled 16 0 ++ (1 ∷ 0 ∷ 0 ∷ 0 ∷ spelled 21 0))) 0 0 0) gives accepted resume_length 0 0
    ∷ answer eight (lent (resume 0 2 0 0 (spelled 16 0 ++ (1 ∷ 0 ∷ 0 ∷ 1 ∷ spelled 21 0))) 0 0 0) gives refusal 8
    ∷ positions eight (lent (resume 1 6 16 0 (spelled state_words 0)) 0 0 0) gives (0 ∷ end ∷ 5 ∷ 16 ∷ last ∷ end ∷ 0 ∷ 0 ∷ [])
    ∷ []

-- 13, 11, 12, and the crypts and parks that pass
unfoldable pub crypts : List Step
crypts =
    answer eight (lent (crypt 4 2) 0 0 0) gives refusal 13
    ∷ answer eight (lent (crypt 5 1) 0 0 0) gives refusal 13
    ∷ answer eight (lent (crypt 5 0) 0 0 0) gives accepted 4 0 0
    ∷ answer eight (lent (crypt 2 300) 0 299 299) gives refusal 11
    ∷ answer eight (lent (crypt 2 300) 0 300 299) gives refusal 12
    ∷ answer eight (lent (crypt 2 7) 0 8 9) gives accepted 4 7 7
    ∷ answer eight (lent (crypt 4 1) 0 1 1) gives accepted 4 1 1
    ∷ positions eight (lent (crypt 4 1) 0 1 1) gives (0 ∷ 0 ∷ 5 ∷ 16 ∷ end ∷ end ∷ 0 ∷ 0 ∷ [])
    ∷ positions eight (lent (crypt 2 7) 0 8 9) gives (0 ∷ 0 ∷ 12 ∷ 16 ∷ last ∷ end ∷ 0 ∷ 0 ∷ [])
    ∷ answer eight (lent (park 2) 0 0 (image_length - 1)) gives refusal 12
    ∷ answer eight (lent (park 2) 0 0 image_length) gives accepted 2 0 image_length
    ∷ modes eight (lent (park 2) 0 0 image_length) gives (0 ∷ 0 ∷ 0 ∷ 1 ∷ 1 ∷ 1 ∷ 0 ∷ 1 ∷ [])
    ∷ positions eight (lent (park 2) 0 0 image_length) gives (0 ∷ 0 ∷ 0 ∷ 16 ∷ last ∷ end ∷ 0 ∷ 0 ∷ [])
    ∷ []

-- 14 and 15, and what parks and resumes leave

abbrev park_of7 : Call
park_of7 = lent (park 7) 0 0 image_length

-- after a park of line 7; after it took up number 3 of line 0; after it was parked again; after it took up that call
abbrev parked_once : Seen
parked_once = held idle_line 3 (3 ∷ 0 ∷ 7 ∷ zeros 4 ++ (3 ∷ []))

abbrev taken_up : Seen
taken_up = held (open_line 5 0 blank) 3 (0 ∷ 0 ∷ 7 ∷ zeros 4 ++ (3 ∷ []))

abbrev parked_twice : Seen
parked_twice = held idle_line 4 (0 ∷ 0 ∷ 7 ∷ zeros 4 ++ (4 ∷ []))

abbrev taken_twice : Seen
taken_twice = held (open_line 5 0 blank) 4 (0 ∷ 0 ∷ 7 ∷ zeros 5)

-- no park of line 7 is left, or one is
abbrev seven_at : ℕ → Seen
seven_at k = after (record { counts = counts k; held = zeros 8 })

unfoldable pub parks : List Step
parks =
    -- the first park has number 1
    numbers (after fresh_parks) park_of7 gives (zeros 7 ++ (1 ∷ zeros 7) ++ (1 ∷ []))
    ∷ writes (after fresh_parks) park_of7 gives image_for 7 1
    -- a later one counts its line's parks and replaces the number of its line, and of no other
    ∷ numbers eight (lent (park 2) 0 0 image_length) gives ((3 ∷ 0 ∷ 8 ∷ zeros 4 ++ (2 ∷ [])) ++ (3 ∷ 0 ∷ 8 ∷ zeros 5))
    ∷ writes eight park_of7 gives image_for 7 3
    -- as many parks of a line as 32 bits count, while another parks on; 6 before 15 before 12
    ∷ answer (seven_at (last_park - 1)) park_of7 gives accepted 2 0 image_length
    ∷ answer (seven_at last_park) (lent (park 7) 0 0 0) gives refusal 15
    ∷ answer (seven_at last_park) (lent (park 2) 0 0 image_length) gives accepted 2 0 image_length
    ∷ answer (seven_at last_park) (lent (park 6) 0 0 0) gives refusal 6
    -- number 0, one that was replaced or taken up, one above the count, and one that another line holds
    ∷ answer eight (lent (bring 0 0 0) 0 0 0) gives refusal 14
    ∷ answer eight (lent (bring 0 0 2) 0 0 0) gives refusal 14
    ∷ answer eight (lent (bring 0 0 4) 0 0 0) gives refusal 14
    ∷ answer eight (lent (bring 0 2 3) 0 0 0) gives refusal 14
    ∷ answer eight (lent (bring 0 1 3) 0 0 0) gives refusal 14
    -- a parking line over 7; 8 before 14
    ∷ answer eight (lent (bring 0 8 3) 0 0 0) gives refusal 8
    ∷ answer eight (lent (bring 0 255 3) 0 0 0) gives refusal 8
    ∷ answer eight (lent (5 ∷ 0 ∷ image 7 0 0 0 8 (spelled state_words 0)) 0 0 0) gives refusal 8
    -- a number equal to its line's count, on whichever line; it is held no more
    ∷ answer eight (lent (bring 6 2 7) 0 0 0) gives accepted resume_length 0 0
    ∷ numbers eight (lent (bring 6 2 7) 0 0 0) gives (counts 2 ++ (3 ∷ zeros 7))
    -- the same number of two lines: each is taken up for its own
    ∷ numbers parked_once (lent (bring 1 7 3) 0 0 0) gives (counts 3 ++ (3 ∷ 0 ∷ 7 ∷ zeros 5))
    -- a close, an open, a crypt and refusals, of a park too, leave the numbers
    ∷ numbers eight (lent (close 2) 0 0 0) gives numbers_on eight
    ∷ numbers eight (lent (own 0 3 16 16) 0 0 0) gives numbers_on eight
    ∷ numbers eight (lent (crypt 2 7) 0 8 9) gives numbers_on eight
    ∷ numbers eight (lent (park 7) 0 0 (image_length - 1)) gives numbers_on eight
    ∷ numbers eight (lent (bring 0 2 6) 0 0 0) gives numbers_on eight
    -- park, resume, park, then a resume of the first park, of the second, and again
    ∷ numbers eight park_of7 gives numbers_on parked_once
    ∷ numbers parked_once (lent (bring 7 0 3) 0 0 0) gives numbers_on taken_up
    ∷ numbers taken_up park_of7 gives numbers_on parked_twice
    ∷ answer parked_twice (lent (bring 7 7 3) 0 0 0) gives refusal 14
    ∷ answer parked_twice (lent (bring 7 7 4) 0 0 0) gives accepted resume_length 0 0
    ∷ numbers parked_twice (lent (bring 7 7 4) 0 0 0) gives numbers_on taken_twice
    ∷ answer taken_twice (lent (bring 1 7 4) 0 0 0) gives refusal 14
    ∷ []

-- 6, 17, 18, 9, 10, 7, 16 of a change, 17 of a park, and the changes that pass

-- line 4 open with SNOW 2.0 of the longer key
abbrev long_key : Seen
long_key = with 4 (open_line 4 5 blank)

-- a card with as many parks of each line as 32 bits count
abbrev all_parked : Seen → Seen
all_parked c = record { lines = c.lines; parks = record { counts = replicate 8 last_park; held = zeros 8 } }

unfoldable pub changes : List Step
changes =
    -- 6 before 18 before 9, and before 10
    answer eight (lent (change 0 0 16 16 1) 33 0 0) gives refusal 6
    ∷ answer eight (lent (change 2 0 16 0 4) 33 0 0) gives refusal 18
    ∷ answer eight (lent (change 2 0 16 16 1) 0 0 0) gives refusal 18
    -- 17 before 18, and where the position is one to wait at
    ∷ answer waiting (lent (change 4 0 16 0 0) 33 0 0) gives refusal 17
    ∷ answer waiting (lent (change 4 0 16 16 0) 32 0 0) gives refusal 17
    -- a park: 17 before 15 before 12
    ∷ answer waiting (lent (park 4) 0 0 image_length) gives refusal 17
    ∷ answer (all_parked waiting) (lent (park 4) 0 0 0) gives refusal 17
    ∷ answer (all_parked waiting) (lent (park 2) 0 0 0) gives refusal 15
    -- at the line's position, at 2^36, and there where the line is at it
    ∷ answer eight (lent (change 2 0 16 0 5) 32 0 0) gives accepted 27 0 0
    ∷ answer eight (lent (change 2 0 16 16 0) 32 0 0) gives accepted 27 0 0
    ∷ answer eight (lent (change 5 0 16 16 0) 32 0 0) gives accepted 27 0 0
    ∷ answer eight (lent (change 5 0 16 15 0) 32 0 0) gives refusal 18
    -- the tray: 9, 10 before 7
    ∷ answer eight (lent (change 2 255 16 0 5) 8224 0 0) gives refusal 9
    ∷ answer eight (lent (change 2 0 16 0 5) 0 0 0) gives refusal 10
    ∷ answer eight (lent (change 3 1 9 0 16) 32 0 0) gives refusal 10
    -- a byte too many for the line's cipher: of an IV for Rabbit, of a key for ZUC and not for SNOW 2.0 of the longer key
    ∷ answer eight (lent (change 3 0 9 0 16) 32 0 0) gives refusal 7
    ∷ answer eight (lent (change 3 0 8 0 16) 32 0 0) gives accepted 27 0 0
    ∷ answer eight (keyed (change 2 0 16 0 5) (ones 32 17)) gives refusal 7
    ∷ answer long_key (keyed (change 4 0 16 0 5) (ones 32 17)) gives accepted 27 0 0
    -- 7 before 16, and a key that is all zero in the line's cipher's own length
    ∷ answer eight (keyed (change 2 0 16 0 5) (zeros 16 ++ ones 16 1)) gives refusal 7
    ∷ answer long_key (keyed (change 4 0 16 0 5) (zeros 16 ++ ones 16 1)) gives accepted 27 0 0
    ∷ answer eight (keyed (change 2 0 16 0 5) (zeros 32)) gives refusal 16
    ∷ answer eight (keyed (change 2 0 16 0 6) (zeros 32)) gives refusal 16
    ∷ answer long_key (keyed (change 4 1 16 0 5) (ones 32 32 ++ zeros 32)) gives refusal 16
    ∷ []

-- when a change comes due, and what the line is then

-- a change of line 3 at a position, and the state that an open with its key and IV gives
abbrev change_of3 : ℕ → Call
change_of3 p = lent (change 3 0 8 0 p) 32 0 0

abbrev new_state : List ℕ
new_state = state_on 0 eight (lent (from_tray 0 2 0 8) 32 0 0)

-- so many bytes on line 3
abbrev crypt_of3 : ℕ → Call
crypt_of3 k = lent (crypt 3 k) 0 k k

-- and on line 4, of 10, 20, .. in hexadecimal
abbrev crypt_of4 : ℕ → Call
crypt_of4 k = fed (crypt 4 k) (take k (0x10 ∷ 0x20 ∷ 0x30 ∷ 0x40 ∷ 0x50 ∷ []))

unfoldable pub comings : List Step
comings =
    -- at the line's position: at once
    positions eight (change_of3 16) gives (0 ∷ 0 ∷ 5 ∷ 0 ∷ last ∷ end ∷ 0 ∷ 0 ∷ [])
    ∷ dues eight (change_of3 16) gives zeros 8
    ∷ state_on 3 eight (change_of3 16) gives new_state
    ∷ positions eight (lent (change 5 0 16 16 0) 32 0 0) gives (0 ∷ 0 ∷ 5 ∷ 16 ∷ last ∷ 0 ∷ 0 ∷ 0 ∷ [])
    ∷ dues eight (lent (change 7 0 16 0 0) 32 0 0) gives zeros 8
    -- above it: it waits, at a position of eight bytes, up to 2^36
    ∷ positions eight (change_of3 18) gives positions eight (lent [] 0 0 0)
    ∷ dues eight (change_of3 18) gives (zeros 3 ++ (18 ∷ zeros 4))
    ∷ state_on 3 eight (change_of3 18) gives blank
    ∷ dues eight (lent (7 ∷ 2 ∷ 0 ∷ (zeros 16 ++ (0 ∷ 0 ∷ 0 ∷ 1 ∷ 2 ∷ 3 ∷ 4 ∷ 5 ∷ []))) 32 0 0) gives (zeros 2 ++ (0x0102030405 ∷ zeros 5))
    ∷ dues eight (lent (change 2 0 16 16 0) 32 0 0) gives (zeros 2 ++ (end ∷ zeros 5))
    -- a refused change leaves none
    ∷ dues eight (change_of3 15) gives zeros 8
    -- at a crypt's end, and one byte before it
    ∷ positions (done eight (change_of3 18)) (crypt_of3 2) gives (0 ∷ 0 ∷ 5 ∷ 0 ∷ last ∷ end ∷ 0 ∷ 0 ∷ [])
    ∷ dues (done eight (change_of3 18)) (crypt_of3 2) gives zeros 8
    ∷ state_on 3 (done eight (change_of3 18)) (crypt_of3 2) gives new_state
    ∷ positions (done eight (change_of3 19)) (crypt_of3 2) gives (0 ∷ 0 ∷ 5 ∷ 18 ∷ last ∷ end ∷ 0 ∷ 0 ∷ [])
    ∷ dues (done eight (change_of3 19)) (crypt_of3 2) gives (zeros 3 ++ (19 ∷ zeros 4))
    -- no bytes, and those of another line, leave it waiting
    ∷ dues waiting (crypt_of4 0) gives (zeros 4 ++ (end ∷ zeros 3))
    ∷ dues waiting (lent (crypt 2 7) 0 8 9) gives (zeros 4 ++ (end ∷ zeros 3))
    -- within a crypt: the old stream's bytes up to it and the new one's after it, past 2^36 in all
    ∷ answer waiting (crypt_of4 5) gives accepted 4 5 5
    ∷ writes waiting (crypt_of4 5) gives (0x13 ∷ 0x24 ∷ 0x35 ∷ 0x46 ∷ 0x57 ∷ [])
    ∷ positions waiting (crypt_of4 5) gives (0 ∷ 0 ∷ 5 ∷ 16 ∷ 3 ∷ end ∷ 0 ∷ 0 ∷ [])
    ∷ dues waiting (crypt_of4 5) gives zeros 8
    ∷ writes waiting (crypt_of4 1) gives (0x13 ∷ [])
    ∷ writes (done waiting (crypt_of4 1)) (crypt_of4 3) gives (0x14 ∷ 0x25 ∷ 0x36 ∷ [])
    -- then a park is of the new stream, and another change is taken
    ∷ writes (done waiting (crypt_of4 5)) (lent (park 4) 0 0 image_length) gives image 3 0 3 4 1 (5 ∷ 6 ∷ 7 ∷ 8 ∷ spelled 37 0)
    ∷ answer (done waiting (crypt_of4 5)) (lent (change 4 0 16 0 4) 32 0 0) gives accepted 27 0 0
    -- a close drops it: the line is idle as on a fresh card
    ∷ modes waiting (lent (close 4) 0 0 0) gives (0 ∷ 0 ∷ 1 ∷ 1 ∷ 0 ∷ 1 ∷ 0 ∷ 1 ∷ [])
    ∷ dues waiting (lent (close 4) 0 0 0) gives zeros 8
    ∷ answer (done waiting (lent (close 4) 0 0 0)) (lent (close 2) 0 0 0) gives accepted 2 0 0
    ∷ []

-- 255 before all others, whichever line it is
-- loads and starts: 5, 9, 10, 7, 16 of a load, 19 and 7 of a start, and every command on a loaded line
unfoldable pub loads : List Step
loads =
    answer eight (lent (load 2 1 0) 33 0 0) gives refusal 5
    ∷ answer loaded_two (lent (load 1 1 0) 33 0 0) gives refusal 5
    ∷ answer eight (lent (load 0 1 0) 33 0 0) gives refusal 9
    ∷ answer eight (lent (load 0 1 1) 32 0 0) gives refusal 10
    -- 7 before 16, of the key alone
    ∷ answer eight (keyed (load 0 1 0) (zeros 16 ++ ones 16 1)) gives refusal 7
    ∷ answer eight (keyed (load 0 1 0) (zeros 32)) gives refusal 16
    ∷ answer eight (keyed (load 0 4 0) (zeros 31 ++ ones 1 1)) gives accepted 4 0 0
    -- a load has no IV: what is behind it is not judged
    ∷ answer eight (lent (load 0 2 0 ++ ones 16 9) 32 0 0) gives accepted 4 0 0
    -- what is kept: the key's words, of Rabbit a state, which is not they
    ∷ state_on 0 eight (keyed (load 0 4 0) (zeros 31 ++ ones 1 1)) gives (zeros 7 ++ (1 ∷ zeros 30))
    ∷ modes eight (lent (load 0 1 0) 32 0 0) gives (2 ∷ 0 ∷ 1 ∷ 1 ∷ 1 ∷ 1 ∷ 0 ∷ 1 ∷ [])
    -- a loaded line: 5, 6, and a close that empties it
    ∷ answer loaded_two (lent (own 1 1 16 16) 0 0 0) gives refusal 5
    ∷ answer loaded_two (lent (from_tray 6 1 0 16) 32 0 0) gives refusal 5
    ∷ answer loaded_two (lent (bring 6 0 3) 0 0 0) gives refusal 5
    ∷ answer loaded_two (lent (crypt 6 0) 0 0 0) gives refusal 6
    ∷ answer loaded_two (lent (park 1) 0 0 image_length) gives refusal 6
    ∷ answer loaded_two (lent (change 6 0 16 0 0) 32 0 0) gives refusal 6
    ∷ answer loaded_two (lent (close 6) 0 0 0) gives accepted 2 0 0
    ∷ modes loaded_two (lent (close 6) 0 0 0) gives (0 ∷ 2 ∷ 1 ∷ 1 ∷ 1 ∷ 1 ∷ 0 ∷ 1 ∷ [])
    ∷ state_on 6 loaded_two (lent (close 6) 0 0 0) gives blank
    -- 19 on an idle line and on an open one, before 7; and 7 by the line's cipher
    ∷ answer eight (lent (start 0 16) 0 0 0) gives refusal 19
    ∷ answer eight (lent (start 3 9) 0 0 0) gives refusal 19
    ∷ answer loaded_two (lent (start 1 9) 0 0 0) gives refusal 7
    ∷ answer loaded_two (lent (start 1 8) 0 0 0) gives accepted 18 0 0
    ∷ answer loaded_two (lent (start 6 16) 0 0 0) gives accepted 18 0 0
    ∷ modes loaded_two (lent (start 6 16) 0 0 0) gives (0 ∷ 2 ∷ 1 ∷ 1 ∷ 1 ∷ 1 ∷ 1 ∷ 1 ∷ [])
    -- a second start is 19
    ∷ answer (done loaded_two (lent (start 1 8) 0 0 0)) (lent (start 1 8) 0 0 0) gives refusal 19
    -- a load and a start leave what an open leaves
    ∷ state_on 0 (done eight (keyed (load 0 2 0) (ones 32 16))) (lent (start 0 8) 0 0 0) gives state_on 0 eight (keyed (from_tray 0 2 0 8) (ones 32 16))
    ∷ []

unfoldable pub damage : List Step
damage =
    answer (with 0 (plain_line 0 1 0 blank)) (lent [] 0 0 0) gives refusal 255
    ∷ answer (with 6 (plain_line 0 0 1 blank)) (lent (close 2) 0 0 0) gives refusal 255
    ∷ answer (with 1 (plain_line 0 0 0 (set blank 37 1))) (lent (close 2) 0 0 0) gives refusal 255
    ∷ answer (with 7 (plain_line 3 5 0 blank)) (lent (close 2) 0 0 0) gives refusal 255
    -- a loaded line: a key all zero, a word behind the key, a position, a change, a cipher that is none, a carry of 2; and those that pass
    ∷ answer (with 7 (plain_line 2 5 0 blank)) (lent (close 2) 0 0 0) gives refusal 255
    ∷ answer (with 7 (plain_line 2 5 0 (set (set blank 0 1) 4 1))) (lent (close 2) 0 0 0) gives refusal 255
    ∷ answer (with 7 (plain_line 2 5 1 (set blank 0 1))) (lent (close 2) 0 0 0) gives refusal 255
    ∷ answer (with 7 (record { mode = 2; cipher = 5; n = 0; words = set blank 0 1; due = 1; waiting = blank })) (lent (close 2) 0 0 0) gives refusal 255
    ∷ answer (with 7 (record { mode = 2; cipher = 5; n = 0; words = set blank 0 1; due = 0; waiting = set blank 37 1 })) (lent (close 2) 0 0 0) gives refusal 255
    ∷ answer (with 7 (plain_line 2 7 0 (set blank 0 1))) (lent (close 2) 0 0 0) gives refusal 255
    ∷ answer (with 7 (plain_line 2 2 0 (set blank 16 (2 ^ 25)))) (lent (close 2) 0 0 0) gives refusal 255
    ∷ answer (with 7 (plain_line 2 2 0 (set blank 16 (2 ^ 24)))) (lent (close 2) 0 0 0) gives accepted 2 0 0
    ∷ answer (with 7 (plain_line 2 4 0 (set blank 7 1))) (lent (close 2) 0 0 0) gives accepted 2 0 0
    ∷ answer (with 3 (open_line 7 0 blank)) (lent (close 2) 0 0 0) gives refusal 255
    ∷ answer (with 7 (open_line 5 (end + 1) blank)) (lent (close 2) 0 0 0) gives refusal 255
    ∷ answer (with 3 (open_line 1 0 blank)) (lent (close 2) 0 0 0) gives refusal 255
    ∷ answer (with 3 (open_line 5 end blank)) (lent (close 2) 0 0 0) gives accepted 2 0 0
    -- a change that waits at the line's position, below it, or above 2^36; one above it, and at 2^36
    ∷ answer (with 4 (before_change 3 5 blank 5 blank)) (lent [] 0 0 0) gives refusal 255
    ∷ answer (with 4 (before_change 3 5 blank 4 blank)) (lent (close 2) 0 0 0) gives refusal 255
    ∷ answer (with 4 (before_change 3 5 blank (end + 1) blank)) (lent (close 2) 0 0 0) gives refusal 255
    ∷ answer (with 4 (before_change 3 5 blank 6 blank)) (lent (close 2) 0 0 0) gives accepted 2 0 0
    ∷ answer (with 4 (before_change 3 5 blank end blank)) (lent (close 2) 0 0 0) gives accepted 2 0 0
    -- on an idle line; and a state where nothing waits, on an idle line and on an open one
    ∷ answer (with 0 (record { mode = 0; cipher = 0; n = 0; words = blank; due = 1; waiting = blank })) (lent (close 2) 0 0 0) gives refusal 255
    ∷ answer (with 0 (record { mode = 0; cipher = 0; n = 0; words = blank; due = 0; waiting = set blank 37 1 })) (lent (close 2) 0 0 0) gives refusal 255
    ∷ answer (with 4 (before_change 3 5 blank 0 (set blank 0 1))) (lent (close 2) 0 0 0) gives refusal 255
    -- an S(0) with a cell of 0, and with a word behind it
    ∷ answer (with 2 (before_change 1 5 cells 6 blank)) (lent (close 2) 0 0 0) gives refusal 255
    ∷ answer (with 2 (before_change 1 5 cells 6 cells)) (lent (close 2) 0 0 0) gives accepted 2 0 0
    ∷ answer (with 4 (before_change 3 5 blank 6 (set blank 18 1))) (lent (close 2) 0 0 0) gives refusal 255
    -- a held number above its own line's count, though not above another's; one that two lines hold passes
    ∷ answer (after (record { counts = set (counts 2) 2 6; held = eight.parks.held })) (lent [] 0 0 0) gives refusal 255
    ∷ answer (after (record { counts = counts 2; held = 3 ∷ 1 ∷ 7 ∷ zeros 5 })) (lent (close 2) 0 0 0) gives refusal 255
    ∷ answer (after (record { counts = counts 2; held = 3 ∷ 0 ∷ 7 ∷ zeros 4 ++ (3 ∷ []) })) (lent (close 2) 0 0 0) gives refusal 255
    ∷ answer (after (record { counts = counts 3; held = 3 ∷ 0 ∷ 7 ∷ zeros 4 ++ (3 ∷ []) })) (lent (close 2) 0 0 0) gives accepted 2 0 0
    ∷ []

unfoldable pub calls : List Step
calls = reads ++ (openness ++ (opens ++ (images ++ (crypts ++ (parks ++ (changes ++ (comings ++ (loads ++ damage))))))))
