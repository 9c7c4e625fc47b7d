-- The plain machine (document 01, "The card"): eight lines, each idle, loaded with a key, or open with a cipher, a base state B, a base unit m, a position n and a change of stream that may wait, and its step for each
-- command. A step is `perform (decide ..)`: `decide` goes down the refusals in their order, by what is public of the lines, the command, key and image bytes that a check names, and the lengths of data and
-- out; `perform` does what is left.
-- Assumes nothing.
use Rattle.std.specs.Prelude.{Bool, true, false, not, List, [], ◌∷◌, ◌++◌, map, ℕ, zero, suc, ◌+◌, ◌-◌, ◌*◌, ◌/◌, ltb, leb, eqb, length, get_or, take, drop, set, replicate, Result, Ok, Err}
pub use Rattle.card_sizes.specs.Sizes.{image_length, line_count, limit}
use Rattle.card_sizes.specs.Sizes.{key_length, iv_length, own_key, resume_image}
use Rattle.words.specs.Tests.{both, pick}
use Rattle.card_moves.specs.Moves.{comes_due, position_on}
use Rattle.keystream.specs.Stream.{Gen, state_at, byte_at, xor_from}
use Rattle.ciphers.specs.States.{state_words}
use Rattle.ciphers.specs.Table.{cipher_at, is_cipher, all_zero}
use Rattle.ciphers.specs.Kept.{kept_of, start_of, keeps_ok}
use Rattle.command.specs.declared.Command.{Command}
use Rattle.command.specs.declared.Command.TheVariants.{Tray, Own, Crypt, Park, Resume, Close, Change, Load, Start}
use Rattle.command.specs.declared.Refusal.{Refusal}
pub use Rattle.command.specs.Rows.{last_number, tray_ok}
use Rattle.command.specs.Rows.{Row, ◌when◌, unless, either, among}
use Rattle.command.specs.Decode.{refusal_number, decode_of, number_of, Operands, operands_of, size_of}
use Rattle.machine.specs.Fields.{in_fields, fields_at}
use Rattle.machine.specs.Parks.{Parks, fresh_parks, no_more, number_now, parked, holds, taken, parks_ok}

-- ---- lines

-- What is seen of a line: its mode (0 idle, 1 open, 2 loaded), and if it is open its cipher's number, its position n, and S(n div u), the state that byte n is read from, as words; and of a change
-- that waits its position and its stream's S(0); if it is loaded its cipher's number and, in the state's place, what it keeps of its key. Zeros where there is none.
pub record Line : Type 0 where
  pub mode : ℕ
  pub cipher : ℕ
  pub n : ℕ
  pub words : List ℕ
  pub due : ℕ
  pub waiting : List ℕ

-- a mode (0 idle, 1 open, 2 loaded), a cipher, document 01's base state B (of a loaded line what it keeps), base unit m and position n; and the position of a change that waits, 0 for none, with its
-- stream's S(0)
pub record MLine : Type 0 where
  pub mode : ℕ
  pub cipher : ℕ
  pub base : List ℕ
  pub from : ℕ
  pub pos : ℕ
  pub due : ℕ
  pub waiting : List ℕ

abbrev pub zeros : List ℕ
zeros = replicate state_words 0

-- lines with nothing waiting
abbrev pub plain : (mode cipher : ℕ) (base : List ℕ) (from pos : ℕ) → MLine
plain mode c base from pos = record { mode = mode; cipher = c; base = base; from = from; pos = pos; due = 0; waiting = zeros }

abbrev pub plain_line : (mode cipher n : ℕ) (words : List ℕ) → Line
plain_line mode c n words = record { mode = mode; cipher = c; n = n; words = words; due = 0; waiting = zeros }

abbrev pub idle : MLine
idle = plain 0 0 zeros 0 0

abbrev pub idle_line : Line
idle_line = plain_line 0 0 0 zeros

-- the generator of a line, and the unit that its position is in
abbrev pub gen_of : ℕ → Gen (List ℕ)
gen_of c = (cipher_at c).gen

abbrev pub gen_at : MLine → Gen (List ℕ)
gen_at l = gen_of l.cipher

unfoldable pub unit_at : MLine → ℕ
unit_at l = l.pos / (gen_at l).unit

-- the line's S(i), in the stream that it is in: Next applied i - m times to B
unfoldable pub state_of : MLine → ℕ → List ℕ
state_of l = state_at (gen_at l) l.base l.from

-- and its keystream byte j: byte j mod u of Strm (S(j div u))
unfoldable pub byte_of : MLine → ℕ → ℕ
byte_of l = byte_at (gen_at l) l.base l.from

-- what is seen of a line: its mode, its cipher, n and S(n div u), and the change that waits
unfoldable pub shown : MLine → Line
shown l = record { mode = l.mode; cipher = l.cipher; n = l.pos; words = state_of l (unit_at l); due = l.due; waiting = l.waiting }

-- the line that starts from what is seen of it
unfoldable pub based : Line → MLine
based l = record { mode = l.mode; cipher = l.cipher; base = l.words; from = l.n / (gen_of l.cipher).unit; pos = l.n; due = l.due; waiting = l.waiting }

-- a line that is opened: B = S(0), m = 0, n = 0
unfoldable pub opened : ℕ → List ℕ → List ℕ → MLine
opened c key iv = plain 1 c ((cipher_at c).init key iv) 0 0

-- a line that is loaded: in B's place what it keeps of a key
unfoldable pub loaded_line : ℕ → List ℕ → MLine
loaded_line c key = plain 2 c (kept_of c key) 0 0

-- a loaded line that is started: B = S(0) of what it keeps and an IV, m = 0, n = 0; the key is not kept
unfoldable pub started_line : MLine → List ℕ → MLine
started_line l iv = plain 1 l.cipher (start_of l.cipher l.base iv) 0 0

-- ---- a line that moves on, past a change that waits

-- k bytes on in the stream that the line is in
unfoldable pub along : MLine → ℕ → MLine
along l k = record { mode = l.mode; cipher = l.cipher; base = l.base; from = l.from; pos = l.pos + k; due = l.due; waiting = l.waiting }

-- at the start of a new stream of the same cipher: B = S(0), m = 0, n = 0
unfoldable pub renewed : MLine → List ℕ → MLine
renewed l s = plain l.mode l.cipher s 0 0

-- the line k bytes on: past the change where it comes due, the bytes after it on in the new stream
unfoldable pub moved : MLine → ℕ → MLine
moved l k = pick (comes_due l.pos l.due k) (along (renewed l l.waiting) (l.pos + k - l.due)) (along l k)

-- a text, each byte XORed with the keystream byte of its position in the stream that the line is in, the first at n
unfoldable pub xored : MLine → List ℕ → List ℕ
xored l text = xor_from (byte_of l) l.pos text

-- a text: up to the change the old stream, and the new one after it
unfoldable pub enciphered : MLine → List ℕ → List ℕ
enciphered l text =
    pick (comes_due l.pos l.due (length text))
    (xored l (take (l.due - l.pos) text) ++ xored (renewed l l.waiting) (drop (l.due - l.pos) text))
    (xored l text)

-- a line that is to change at position p to the stream of S(0) s: at once where it is there, else the change waits
unfoldable pub changed : MLine → ℕ → List ℕ → MLine
changed l p s =
    pick (eqb p l.pos) (renewed l s)
    (record { mode = l.mode; cipher = l.cipher; base = l.base; from = l.from; pos = l.pos; due = p; waiting = s })

-- ---- images: a field of 1 byte for the cipher, one of 8 for n, one of 1 for the line that parked, one of 4 for the park's number, and one of 4 for each of the state's words with the zeros after them

abbrev pub image_widths : List ℕ
image_widths = 1 ∷ 8 ∷ 1 ∷ 4 ∷ replicate state_words 4

-- the image that the park of number k from line i makes of a line
unfoldable pub image_of : (i k : ℕ) → Line → List ℕ
image_of i k l = in_fields image_widths (l.cipher ∷ l.n ∷ i ∷ k ∷ l.words)

-- the open line that an image holds
abbrev pub fields_line : List ℕ → Line
fields_line xs = plain_line 1 (get_or xs 0 0) (get_or xs 1 0) (drop 4 xs)

unfoldable pub image_line : List ℕ → Line
image_line img = fields_line (fields_at image_widths img 0)

-- the line that parked it
unfoldable pub image_from : List ℕ → ℕ
image_from img = get_or (fields_at image_widths img 0) 2 0

-- and the number of its park
unfoldable pub image_number : List ℕ → ℕ
image_number img = get_or (fields_at image_widths img 0) 3 0

-- the image that a resume brings
abbrev pub image_in : List ℕ → List ℕ
image_in command = take image_length (drop resume_image command)

-- ---- what numbers 8 and 255 ask

-- of an image or an open line: its cipher, n, and its state with the zeros after it
unfoldable pub state_ok : (c n : ℕ) → List ℕ → Bool
state_ok c n w = both (is_cipher c) (both (leb n limit) ((cipher_at c).admits w))

abbrev pub image_ok : Line → Bool
image_ok l = state_ok l.cipher l.n l.words

-- and of an image the line that parked it
abbrev pub from_ok : List ℕ → Bool
from_ok img = ltb (image_from img) line_count

-- nothing waits on a line of cipher c at n, or a change above n with an S(0) that an image may have at its position
unfoldable pub change_ok : (c n due : ℕ) → List ℕ → Bool
change_ok c n due w = pick (eqb due 0) (all_zero w) (both (ltb n due) (state_ok c due w))

unfoldable pub open_ok : Line → Bool
open_ok l = both (image_ok l) (change_ok l.cipher l.n l.due l.waiting)

-- an idle line as on a fresh card
unfoldable pub idle_ok : Line → Bool
idle_ok l = both (eqb l.cipher 0) (both (eqb l.n 0) (both (all_zero l.words) (both (eqb l.due 0) (all_zero l.waiting))))

-- a loaded line: its cipher and what it keeps, and the rest as on a fresh card
unfoldable pub loaded_ok : Line → Bool
loaded_ok l = both (is_cipher l.cipher) (both (eqb l.n 0) (both (both (eqb l.due 0) (all_zero l.waiting)) (keeps_ok l.cipher l.words)))

unfoldable pub line_ok : Line → Bool
line_ok l = pick (eqb l.mode 0) (idle_ok l) (pick (eqb l.mode 1) (open_ok l) (both (eqb l.mode 2) (loaded_ok l)))

-- ---- a call, and what it gives

pub record Call : Type 0 where
  pub command : List ℕ
  pub tray : List ℕ
  pub text : List ℕ
  pub out : List ℕ

pub record Reply : Type 0 where
  pub code : ℕ
  pub used-command : ℕ
  pub used-data : ℕ
  pub output : List ℕ

-- ---- the machine, what is seen of it, and what is public of it

pub record Machine : Type 0 where
  pub lines : List MLine
  pub parks : Parks

abbrev pub line_at : Machine → ℕ → MLine
line_at m i = get_or m.lines i idle

abbrev pub with_line : Machine → ℕ → MLine → Machine
with_line m i l = record { lines = set m.lines i l; parks = m.parks }

abbrev pub with_parks : Machine → Parks → Machine
with_parks m p = record { lines = m.lines; parks = p }

pub record Seen : Type 0 where
  pub lines : List Line
  pub parks : Parks

abbrev pub with_line_seen : Seen → ℕ → Line → Seen
with_line_seen c i l = record { lines = set c.lines i l; parks = c.parks }

abbrev pub with_parks_seen : Seen → Parks → Seen
with_parks_seen c p = record { lines = c.lines; parks = p }

abbrev pub seen : Machine → Seen
seen m = record { lines = map shown m.lines; parks = m.parks }

-- the machine that starts from what is seen
abbrev pub back : Seen → Machine
back s = record { lines = map based s.lines; parks = s.parks }

abbrev pub fresh_card : Seen
fresh_card = record { lines = replicate line_count idle_line; parks = fresh_parks }

abbrev pub fresh_machine : Machine
fresh_machine = record { lines = replicate line_count idle; parks = fresh_parks }

-- each of the first k lines is as a call leaves it
abbrev pub all_ok : ℕ → List Line → Bool
all_ok zero ls = true
all_ok (suc k) ls = both (all_ok k ls) (line_ok (get_or ls k idle_line))

-- a card that is as a call leaves it
abbrev pub card_ok : Seen → Bool
card_ok c = both (all_ok line_count c.lines) (parks_ok c.parks)

-- of a line its mode, its cipher, its position and that of a change that waits are public, and the parks are
pub record View : Type 0 where
  pub mode : ℕ
  pub cipher : ℕ
  pub pos : ℕ
  pub due : ℕ

abbrev pub no_view : View
no_view = record { mode = 0; cipher = 0; pos = 0; due = 0 }

unfoldable pub view_of : MLine → View
view_of l = record { mode = l.mode; cipher = l.cipher; pos = l.pos; due = l.due }

pub record Public : Type 0 where
  pub lines : List View
  pub parks : Parks

abbrev pub public : Machine → Public
public m = record { lines = map view_of m.lines; parks = m.parks }

abbrev pub view_at : Public → ℕ → View
view_at v i = get_or v.lines i no_view

abbrev pub is_idle : Public → ℕ → Bool
is_idle v i = eqb (view_at v i).mode 0

abbrev pub is_open : Public → ℕ → Bool
is_open v i = eqb (view_at v i).mode 1

abbrev pub is_loaded : Public → ℕ → Bool
is_loaded v i = eqb (view_at v i).mode 2

abbrev pub waits : Public → ℕ → Bool
waits v i = not (eqb (view_at v i).due 0)

-- ---- a command's key and IV

-- 01, 07 or 08; 01, 02, 07 or 08; 01, 02, 07 or 09; 03
abbrev pub from_tray : Operands → Bool
from_tray o = among (1 ∷ 7 ∷ 8 ∷ []) o.kind

abbrev pub takes_key : Operands → Bool
takes_key o = among (1 ∷ 2 ∷ 7 ∷ 8 ∷ []) o.kind

abbrev pub takes_iv : Operands → Bool
takes_iv o = among (1 ∷ 2 ∷ 7 ∷ 9 ∷ []) o.kind

abbrev pub crypts : Operands → Bool
crypts o = eqb o.kind 3

-- a key, a part of the tray or a part of the command, and an IV, none of a command that has none; the cipher's own bytes stand first, zeros after
abbrev pub key_field : Operands → Call → List ℕ
key_field o a =
    pick (from_tray o) (take key_length (drop (key_length * o.key_number) a.tray))
    (pick (eqb o.kind 2) (take key_length (drop own_key a.command)) [])

abbrev pub iv_field : Operands → Call → List ℕ
iv_field o a = pick (takes_iv o) (take iv_length (drop o.iv_at a.command)) []

-- the bytes of a key and of an IV that cipher c takes
abbrev pub key_for : ℕ → List ℕ → List ℕ
key_for c key = take (cipher_at c).key key

abbrev pub iv_for : ℕ → List ℕ → List ℕ
iv_for c iv = take (cipher_at c).iv iv

-- S(0) of cipher c, of the bytes that it takes of a key and an IV
abbrev pub stream_of : ℕ → List ℕ → List ℕ → List ℕ
stream_of c key iv = (cipher_at c).init (key_for c key) (iv_for c iv)

-- the cipher of a command's key and IV: the one that it names, and of 07 and 09 its line's
abbrev pub cipher_for : Operands → Public → ℕ
cipher_for o v = pick (among (7 ∷ 9 ∷ []) o.kind) (view_at v o.line).cipher o.cipher

-- a byte beyond the cipher's length is not 0
unfoldable pub spare_used : ℕ → List ℕ → List ℕ → Bool
spare_used c key iv = not (both (all_zero (drop (cipher_at c).key key)) (all_zero (drop (cipher_at c).iv iv)))

-- the key is all zero in the cipher's own length
unfoldable pub blank_key : ℕ → List ℕ → Bool
blank_key c key = all_zero (key_for c key)

-- ---- what is to be done

-- a refusal; a line put in the place of line i; count bytes crypted on line i; line i parked; a line put in the place of line i that takes up the number of line j; line i that is to change at
-- position p to the stream of S(0) s; line i started with an IV; each with the bytes of the command
pub data Effect : Type 0 where
  refuse : ℕ → Effect
  put : (i : ℕ) (l : MLine) (size : ℕ) → Effect
  crypt : (i count size : ℕ) → Effect
  park : (i size : ℕ) → Effect
  resume : (i : ℕ) (l : MLine) (j size : ℕ) → Effect
  change : (i p : ℕ) (s : List ℕ) (size : ℕ) → Effect
  start : (i : ℕ) (iv : List ℕ) (size : ℕ) → Effect

unfoldable pub refuse_if : Bool → ℕ → Effect → Effect
refuse_if true k e = refuse k
refuse_if false k e = e

-- the line that an open puts
abbrev pub opened_by : Operands → Call → MLine
opened_by o a = opened o.cipher (key_for o.cipher (key_field o a)) (iv_for o.cipher (iv_field o a))

abbrev pub effect_of : Command → Public → Call → Effect
effect_of (Tray i c k) v a = put i (opened_by (operands_of (Tray i c k)) a) (size_of (Tray i c k))
effect_of (Own i c) v a = put i (opened_by (operands_of (Own i c)) a) (size_of (Own i c))
effect_of (Crypt i n) v a = crypt i n (size_of (Crypt i n))
effect_of (Park i) v a = park i (size_of (Park i))
effect_of (Resume i) v a = resume i (based (image_line (image_in a.command))) (image_from (image_in a.command)) (size_of (Resume i))
effect_of (Close i) v a = put i idle (size_of (Close i))
effect_of (Change i k p) v a = change i p (stream_of (cipher_for (operands_of (Change i k p)) v) (key_field (operands_of (Change i k p)) a) (iv_field (operands_of (Change i k p)) a)) (size_of (Change i k p))
effect_of (Load i c k) v a = put i (loaded_line (number_of c) (key_for (number_of c) (key_field (operands_of (Load i c k)) a))) (size_of (Load i c k))
effect_of (Start i) v a = start i (iv_for (cipher_for (operands_of (Start i)) v) (iv_field (operands_of (Start i)) a)) (size_of (Start i))

-- All that a decision reads of a call: three lengths, whether a byte of the key or the IV beyond the cipher's length is not 0, whether the key is all zero within it, and the image that
-- a resume brings; no byte of data, and nothing else of a key or an IV within the cipher's lengths.
pub record Facts : Type 0 where
  pub tray_count : ℕ
  pub text_count : ℕ
  pub out_count : ℕ
  pub spare : Bool
  pub blank : Bool
  pub image : List ℕ

abbrev pub facts_of : Operands → Public → Call → Facts
facts_of o v a =
    record {
      tray_count = length a.tray;
      text_count = length a.text;
      out_count = length a.out;
      spare = spare_used (cipher_for o v) (key_field o a) (iv_field o a);
      blank = blank_key (cipher_for o v) (key_field o a);
      image = pick (eqb o.kind 5) (image_in a.command) [];
    }

-- The refusals of a command that is read, in the documents' order; 1, 2, 1, 3 and 4 come before them, in `unread` and with the cipher that is read.
abbrev pub refusals : Operands → Public → Facts → List Row
refusals o v f =
    -- open, load or resume on an open or a loaded line
    (5 when both (among (1 ∷ 2 ∷ 5 ∷ 8 ∷ []) o.kind) (not (is_idle v o.line)))
    -- crypt, park or change on an idle or a loaded one, close on an idle one
    ∷ (6 when both (among (3 ∷ 4 ∷ 6 ∷ 7 ∷ []) o.kind) (pick (eqb o.kind 6) (is_idle v o.line) (not (is_open v o.line))))
    -- start on a line that is not loaded
    ∷ (19 when both (eqb o.kind 9) (not (is_loaded v o.line)))
    -- park or change where a change waits
    ∷ (17 when both (among (4 ∷ 7 ∷ []) o.kind) (waits v o.line))
    -- a change below the line's position or above 2^36
    ∷ (18 when both (eqb o.kind 7) (either (ltb o.position (view_at v o.line).pos) (ltb limit o.position)))
    -- no park from its line is left
    ∷ (15 when both (eqb o.kind 4) (no_more v.parks o.line))
    -- tray length not a multiple of 32, or over 8,192
    ∷ (9 when both (from_tray o) (not (tray_ok f.tray_count)))
    -- key number not in it
    ∷ (10 when both (from_tray o) (ltb f.tray_count (key_length * o.key_number + key_length)))
    -- a key or IV byte beyond the cipher's length is not 0
    ∷ (7 when both (among (1 ∷ 2 ∷ 7 ∷ 8 ∷ 9 ∷ []) o.kind) f.spare)
    -- key all zero
    ∷ (16 when both (takes_key o) f.blank)
    -- image: cipher, n, padding, ZUC cell, Rabbit carry, parking line
    ∷ (8 when both (eqb o.kind 5) (not (both (image_ok (image_line f.image)) (from_ok f.image))))
    -- park number not held of the parking line
    ∷ (14 when both (eqb o.kind 5) (not (holds v.parks (image_from f.image) (image_number f.image))))
    -- the position after it, in the stream that the line is in then, over 2^36
    ∷ (13 when both (crypts o) (ltb limit (position_on (view_at v o.line).pos (view_at v o.line).due o.count)))
    -- data shorter than count
    ∷ (11 when both (crypts o) (ltb f.text_count o.count))
    -- out shorter than count, or than an image
    ∷ (12 when both (among (3 ∷ 4 ∷ []) o.kind) (ltb f.out_count (pick (crypts o) o.count image_length)))
    ∷ []

-- the rows that a command meets in a call, and what is left where it passes them
abbrev pub rows_of : Command → Public → Call → List Row
rows_of c v a = refusals (operands_of c) v (facts_of (operands_of c) v a)

unfoldable pub decided : Command → Public → Call → Effect
decided c v a = unless refuse_if (rows_of c v a) (effect_of c v a)

abbrev pub of_decoded : Result Command Refusal → Public → Call → Effect
of_decoded (Err e) v a = refuse (refusal_number e)
of_decoded (Ok c) v a = decided c v a

unfoldable pub decide : Public → Call → Effect
decide v a = of_decoded (decode_of a.command) v a

-- ---- the step

pub record Stepped : Type 0 where
  pub machine : Machine
  pub outcome : Reply

abbrev pub answer : ℕ → ℕ → ℕ → List ℕ → Reply
answer k c d w = record { code = k; used-command = c; used-data = d; output = w }

abbrev pub perform : Machine → List ℕ → Effect → Stepped
perform m text (refuse k) = record { machine = m; outcome = answer k 0 0 [] }
perform m text (put i l size) = record { machine = with_line m i l; outcome = answer 0 size 0 [] }
perform m text (crypt i n size) =
    record { machine = with_line m i (moved (line_at m i) n); outcome = answer 0 size n (enciphered (line_at m i) (take n text)) }
perform m text (park i size) =
    record { machine = with_parks (with_line m i idle) (parked m.parks i); outcome = answer 0 size 0 (image_of i (number_now m.parks i) (shown (line_at m i))) }
perform m text (resume i l j size) = record { machine = with_parks (with_line m i l) (taken m.parks j); outcome = answer 0 size 0 [] }
perform m text (change i p s size) = record { machine = with_line m i (changed (line_at m i) p s); outcome = answer 0 size 0 [] }
perform m text (start i iv size) = record { machine = with_line m i (started_line (line_at m i) iv); outcome = answer 0 size 0 [] }

unfoldable pub step : Machine → Call → Stepped
step m a = perform m a.text (decide (public m) a)

-- ---- what a call shows: its outcome, and what is seen after it

pub record Shown : Type 0 where
  pub outcome : Reply
  pub card : Seen

abbrev pub shows : Stepped → Shown
shows s = record { outcome = s.outcome; card = seen s.machine }

-- what a call on a card gives that is seen so: 255 where it is not as a call leaves it, else the machine's step from what is seen
unfoldable pub card_step : Seen → Call → Shown
card_step c a = pick (card_ok c) (shows (step (back c) a)) (record { outcome = answer 255 0 0 []; card = c })
