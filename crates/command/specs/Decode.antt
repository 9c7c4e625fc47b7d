-- How a command is read: its kind with its operands, or the first of the numbers 1, 2, 1, 3, 4 that applies (document 01, "The card" and "Who meets which number").
-- Assumes nothing.
use Rattle.std.specs.Prelude.{Bool, List, [], ◌∷◌, ℕ, ◌+◌, ◌*◌, ◌^◌, ltb, eqb, length, get_or, Result, Ok, Err}
use Rattle.words.specs.Strings.{word_at}
use Rattle.words.specs.Tests.{pick}
use Rattle.card_sizes.specs.Sizes.{tray_iv, tray_length, own_iv, own_length, crypt_length, park_length, resume_length, close_length, change_iv, change_at, change_length, load_length, start_iv, start_length}
use Rattle.command.specs.Rows.{RowOf, ◌when◌, unless}
use Rattle.command.specs.declared.Cipher.{Cipher}
use Rattle.command.specs.declared.Cipher.TheVariants.{Zuc, Rabbit, Snow128, Snow256, Kcipher2, Mugi}
use Rattle.command.specs.declared.Command.{Command}
use Rattle.command.specs.declared.Command.TheVariants.{Tray, Own, Crypt, Park, Resume, Close, Change, Load, Start}
use Rattle.command.specs.declared.Refusal.{Refusal}
use Rattle.command.specs.declared.Refusal.TheVariants.{CutShort, UnknownCommand, NoSuchLine, UnknownCipher, NotIdle, NotOpen, BeyondLength, InvalidImage, TrayLength, NoSuchKey, DataTooShort, OutTooShort, PastTheEnd, ImageNotHeld, NoParkLeft, BlankKey, ChangeWaits, ChangePosition, NotLoaded, MessageLength, NotGenuine, Damaged}

-- ---- refusals

-- the number of a refusal: those of document 01's list, with document 02's, then 23 and 24 of sealed records, and 255
abbrev pub refusal_number : Refusal → ℕ
refusal_number CutShort = 1
refusal_number UnknownCommand = 2
refusal_number NoSuchLine = 3
refusal_number UnknownCipher = 4
refusal_number NotIdle = 5
refusal_number NotOpen = 6
refusal_number BeyondLength = 7
refusal_number InvalidImage = 8
refusal_number TrayLength = 9
refusal_number NoSuchKey = 10
refusal_number DataTooShort = 11
refusal_number OutTooShort = 12
refusal_number PastTheEnd = 13
refusal_number ImageNotHeld = 14
refusal_number NoParkLeft = 15
refusal_number BlankKey = 16
refusal_number ChangeWaits = 17
refusal_number ChangePosition = 18
refusal_number NotLoaded = 19
refusal_number MessageLength = 23
refusal_number NotGenuine = 24
refusal_number Damaged = 255

-- the number of a result: 0 for what is accepted
abbrev pub refusal_of : {A : Type 0} → Result A Refusal → ℕ
refusal_of (Ok x) = 0
refusal_of (Err e) = refusal_number e

-- ---- ciphers

-- the cipher of a number from 1 to 6
unfoldable pub read_of : ℕ → Result Cipher Refusal
read_of b =
    pick (eqb b 1) (Ok Zuc)
    (pick (eqb b 2) (Ok Rabbit) (pick (eqb b 3) (Ok Snow128) (pick (eqb b 4) (Ok Snow256) (pick (eqb b 5) (Ok Kcipher2) (pick (eqb b 6) (Ok Mugi) (Err UnknownCipher))))))

-- the number of a cipher
abbrev pub number_of : Cipher → ℕ
number_of Zuc = 1
number_of Rabbit = 2
number_of Snow128 = 3
number_of Snow256 = 4
number_of Kcipher2 = 5
number_of Mugi = 6

-- what is made of a cipher that is read; of one that is not 1 to 6 the refusal, which is 4
abbrev pub with_cipher : Result Cipher Refusal → (Cipher → Result Command Refusal) → Result Command Refusal
with_cipher (Ok c) f = f c
with_cipher (Err e) f = Err e

-- an open or a load: line, cipher, and with a key of the tray the key number
unfoldable pub open_of : ℕ → List ℕ → Result Command Refusal
open_of k s =
    with_cipher (read_of (get_or s 2 0))
    (λ c. pick (eqb k 1) (Ok (Tray (get_or s 1 0) c (get_or s 3 0))) (pick (eqb k 2) (Ok (Own (get_or s 1 0) c)) (Ok (Load (get_or s 1 0) c (get_or s 3 0)))))

-- a crypt: line, count in two bytes
unfoldable pub crypt_of : List ℕ → Result Command Refusal
crypt_of s = Ok (Crypt (get_or s 1 0) (get_or s 2 0 * 256 + get_or s 3 0))

-- a change of key: line, key number, position in eight bytes
unfoldable pub change_of : List ℕ → Result Command Refusal
change_of s = Ok (Change (get_or s 1 0) (get_or s 2 0) (word_at s change_at * 2 ^ 32 + word_at s (change_at + 4)))

-- ---- the commands: first byte, length, and what the bytes say; the second byte is the line

pub record Form : Type 0 where
  pub kind : ℕ
  pub size : ℕ
  pub read : List ℕ → Result Command Refusal

abbrev pub form : ℕ → ℕ → (List ℕ → Result Command Refusal) → Form
form k n f = record { kind = k; size = n; read = f }

abbrev pub forms : List Form
forms =
    form 1 tray_length (open_of 1)
    ∷ form 2 own_length (open_of 2)
    ∷ form 3 crypt_length crypt_of
    ∷ form 4 park_length (λ s. Ok (Park (get_or s 1 0)))
    ∷ form 5 resume_length (λ s. Ok (Resume (get_or s 1 0)))
    ∷ form 6 close_length (λ s. Ok (Close (get_or s 1 0)))
    ∷ form 7 change_length change_of
    ∷ form 8 load_length (open_of 8)
    ∷ form 9 start_length (λ s. Ok (Start (get_or s 1 0)))
    ∷ []

abbrev pub size_in : List Form → ℕ → ℕ
size_in [] k = 0
size_in (f ∷ fs) k = pick (eqb k f.kind) f.size (size_in fs k)

abbrev pub read_in : List Form → ℕ → List ℕ → Result Command Refusal
read_in [] k s = Err UnknownCommand
read_in (f ∷ fs) k s = pick (eqb k f.kind) (f.read s) (read_in fs k s)

-- the length of a command by its first byte, and 0 where that is not 01 to 09
unfoldable pub length_of : ℕ → ℕ
length_of k = size_in forms k

unfoldable pub command_of : ℕ → List ℕ → Result Command Refusal
command_of k s = read_in forms k s

-- ---- the refusals of a command that is not read, in document 01's order; 4 comes with the cipher

abbrev pub refused_if : Bool → Refusal → Result Command Refusal → Result Command Refusal
refused_if b e d = pick b (Err e) d

abbrev pub unread : List ℕ → List (RowOf Refusal)
unread s =
    -- 1: empty
    (CutShort when eqb (length s) 0)
    -- 2: unknown
    ∷ (UnknownCommand when eqb (length_of (get_or s 0 0)) 0)
    -- 1: cut short
    ∷ (CutShort when ltb (length s) (length_of (get_or s 0 0)))
    -- 3: a line over 7
    ∷ (NoSuchLine when ltb 7 (get_or s 1 0))
    ∷ []

unfoldable pub decode_of : List ℕ → Result Command Refusal
decode_of s = unless refused_if (unread s) (command_of (get_or s 0 0) s)

-- ---- operands

-- The operands of a command: its first byte, its line and, 0 where it has none, the number of the cipher that it names, the number of its key in the tray, where its IV stands, its count and its position.
pub record Operands : Type 0 where
  pub kind : ℕ
  pub line : ℕ
  pub cipher : ℕ
  pub key_number : ℕ
  pub iv_at : ℕ
  pub count : ℕ
  pub position : ℕ

abbrev pub operands_of : Command → Operands
operands_of (Tray i c k) = record { kind = 1; line = i; cipher = number_of c; key_number = k; iv_at = tray_iv; count = 0; position = 0 }
operands_of (Own i c) = record { kind = 2; line = i; cipher = number_of c; key_number = 0; iv_at = own_iv; count = 0; position = 0 }
operands_of (Crypt i n) = record { kind = 3; line = i; cipher = 0; key_number = 0; iv_at = 0; count = n; position = 0 }
operands_of (Park i) = record { kind = 4; line = i; cipher = 0; key_number = 0; iv_at = 0; count = 0; position = 0 }
operands_of (Resume i) = record { kind = 5; line = i; cipher = 0; key_number = 0; iv_at = 0; count = 0; position = 0 }
operands_of (Close i) = record { kind = 6; line = i; cipher = 0; key_number = 0; iv_at = 0; count = 0; position = 0 }
operands_of (Change i k p) = record { kind = 7; line = i; cipher = 0; key_number = k; iv_at = change_iv; count = 0; position = p }
operands_of (Load i c k) = record { kind = 8; line = i; cipher = number_of c; key_number = k; iv_at = 0; count = 0; position = 0 }
operands_of (Start i) = record { kind = 9; line = i; cipher = 0; key_number = 0; iv_at = start_iv; count = 0; position = 0 }

-- the line that a command names, and its length
abbrev pub line_of : Command → ℕ
line_of c = (operands_of c).line

abbrev pub size_of : Command → ℕ
size_of c = length_of (operands_of c).kind
