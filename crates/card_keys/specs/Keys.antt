-- What refuses a key and an IV, which key is handed out, and what an open and a change with them come to.
-- Assumes nothing.
use Rattle.std.specs.Prelude.{◌≡◌, Bool, true, false, not, List, [], ℕ, eqb, take, drop, Result, MatchResult}
use Rattle.std.specs.Borrow.{Bor}
use Rattle.words.specs.Tests.{pick}
use Rattle.card_sizes.specs.Sizes.{key_length, load_length, start_length}
use Rattle.command.specs.declared.Refusal.{Refusal}
use Rattle.command.specs.Decode.{refusal_number}
use Rattle.card_keys.specs.declared.Place.{Place}
use Rattle.card_keys.specs.declared.Place.TheVariants.{InTray, InCommand}
use Rattle.ciphers.specs.Table.{cipher_at, all_zero}
use Rattle.machine.specs.Machine.{Effect, refuse_if, put, change, start, opened, loaded_line, key_for, iv_for, stream_of, spare_used, blank_key}

-- whether a command brings its key, else it is a part of the tray; and the byte that it begins at
abbrev pub is_own : Place → Bool
is_own (InTray at) = false
is_own (InCommand at) = true

abbrev pub at_of : Place → ℕ
at_of (InTray at) = at
at_of (InCommand at) = at

-- the bytes of a key: those from byte at on of the command that brings its own, or of the tray
abbrev pub key_bytes : Bool → ℕ → (tray command : List ℕ) → List ℕ
key_bytes own at tray command = take key_length (drop at (pick own command tray))

-- 7 where a byte beyond the cipher's lengths is not 0, else 16 where the key is all zero in the cipher's own length, else 0
unfoldable pub key_code : ℕ → (key iv : List ℕ) → ℕ
key_code c key iv = pick (spare_used c key iv) 7 (pick (blank_key c key) 16 0)

-- a key that is handed out of the bytes of a key: those of the cipher's own length, not all zero
pub record HandedKey (c : ℕ) (key iv part : List ℕ) : Type 0 where
  pub passed : key_code c key iv ≡ 0
  pub own : part ≡ take (cipher_at c).key key
  pub not-blank : all_zero part ≡ false

-- What is handed out of the bytes of a key; where their number is not 0 that refusal.
abbrev pub Handed : ℕ → (key iv : List ℕ) → Result (Bor (List ℕ)) Refusal → Type 0
Handed c key iv r = MatchResult r (λ part. HandedKey c key iv part.now) (λ e. refusal_number e ≡ key_code c key iv)

-- an effect that the number of a key and an IV may refuse
abbrev pub keyed_with : ℕ → (key iv : List ℕ) → Effect → Effect
keyed_with c key iv e = refuse_if (spare_used c key iv) 7 (refuse_if (blank_key c key) 16 e)

-- an open of line i with the fields of a key and an IV, once the line and the tray are judged
abbrev pub open_with : (i size c : ℕ) → (key iv : List ℕ) → Effect
open_with i size c key iv = keyed_with c key iv (put i (opened c (key_for c key) (iv_for c iv)) size)

-- a load of line i with the field of a key, which has no IV
abbrev pub load_with : (i c : ℕ) → (key : List ℕ) → Effect
load_with i c key = keyed_with c key [] (put i (loaded_line c (key_for c key)) load_length)

-- a start of line i of mode m and cipher c with the field of an IV
abbrev pub start_with : (i m c : ℕ) → (iv : List ℕ) → Effect
start_with i m c iv = refuse_if (not (eqb m 2)) 19 (refuse_if (spare_used c [] iv) 7 (start i (iv_for c iv) start_length))

-- a change of line i at position p with them
abbrev pub change_with : (i p size c : ℕ) → (key iv : List ℕ) → Effect
change_with i p size c key iv = keyed_with c key iv (change i p (stream_of c key iv) size)
