-- What each call of a list did, by what it was lent and what it answered; and what each line has enciphered since its open or resume, with the streams that its changes brought.
-- Assumes nothing.
use Rattle.std.specs.Prelude.{ℕ, ◌+◌, ◌-◌, List, [], ◌∷◌, ◌++◌, length, take, eqb, leb, Result, Ok, Err}
use Rattle.words.specs.Tests.{pick}
use Rattle.command.specs.declared.Command.TheVariants.{Tray, Own, Crypt, Park, Resume, Close, Change, Load, Start}
use Rattle.command.specs.declared.Command.{Command}
use Rattle.command.specs.declared.Refusal.{Refusal}
use Rattle.command.specs.Decode.{decode_of, number_of, operands_of}
use Rattle.machine.specs.Machine.{MLine, idle, plain, along, byte_of, opened, loaded_line, started_line, based, image_line, image_in, key_field, iv_field, key_for, iv_for, stream_of}
use Rattle.machine.specs.Calls.{Made}

-- ---- what a call did, by what it was lent and what it answered

pub data Did : Type 0 where
  did_nothing : Did
  did-open : (i c : ℕ) (key iv : List ℕ) → Did
  did-crypt : (i : ℕ) (input output : List ℕ) → Did
  did-park : (i : ℕ) (image : List ℕ) → Did
  did-resume : (i : ℕ) (image : List ℕ) → Did
  did-close : (i : ℕ) → Did
  did-change : (i p : ℕ) (key iv : List ℕ) → Did
  did-load : (i c : ℕ) (key : List ℕ) → Did
  did-start : (i : ℕ) (iv : List ℕ) → Did

-- An accepted command. A crypt's input is the data it uses, its output what it writes. Of a change the bytes of key and IV are all that stand in tray and command, and of a start those of its IV: the
-- line's cipher says how many are taken.
abbrev pub done_by : Made → Result Command Refusal → Did
done_by x (Ok (Tray i c k)) = did-open i (number_of c) (key_for (number_of c) (key_field (operands_of (Tray i c k)) x.call)) (iv_for (number_of c) (iv_field (operands_of (Tray i c k)) x.call))
done_by x (Ok (Own i c)) = did-open i (number_of c) (key_for (number_of c) (key_field (operands_of (Own i c)) x.call)) (iv_for (number_of c) (iv_field (operands_of (Own i c)) x.call))
done_by x (Ok (Crypt i n)) = did-crypt i (take x.used-data x.call.text) (take x.written x.out)
done_by x (Ok (Park i)) = did-park i (take x.written x.out)
done_by x (Ok (Resume i)) = did-resume i (image_in x.call.command)
done_by x (Ok (Close i)) = did-close i
done_by x (Ok (Change i k p)) = did-change i p (key_field (operands_of (Change i k p)) x.call) (iv_field (operands_of (Change i k p)) x.call)
done_by x (Ok (Load i c k)) = did-load i (number_of c) (key_for (number_of c) (key_field (operands_of (Load i c k)) x.call))
done_by x (Ok (Start i)) = did-start i (iv_field (operands_of (Start i)) x.call)
done_by x (Err e) = did_nothing

abbrev pub did : Made → Did
did x = pick (eqb x.code 0) (done_by x (decode_of x.call.command)) did_nothing

-- ---- a line's log: its streams since its last accepted open, start or resume, and the inputs and the outputs of its accepted crypts since then, joined

-- a stream: the line at its beginning, and the number of joined bytes before its first
pub record Stream : Type 0 where
  pub since : ℕ
  pub line : MLine

-- the newest stream stands first
pub record Log : Type 0 where
  pub streams : List Stream
  pub ins : List ℕ
  pub outs : List ℕ

abbrev pub begun : MLine → Log
begun l = record { streams = record { since = 0; line = l } ∷ []; ins = []; outs = [] }

abbrev pub joined : Log → List ℕ → List ℕ → Log
joined g x y = record { streams = g.streams; ins = g.ins ++ x; outs = g.outs ++ y }

-- the line that joined byte j is read from: that of the newest stream that has begun there
unfoldable pub place_at : List Stream → ℕ → MLine
place_at [] j = idle
place_at (s ∷ rest) j = pick (leb s.since j) (along s.line (j - s.since)) (place_at rest j)

-- and its keystream byte
abbrev pub byte_in : List Stream → ℕ → ℕ
byte_in ss j = byte_of (place_at ss j) (place_at ss j).pos

abbrev pub key_byte : Log → ℕ → ℕ
key_byte g j = byte_in g.streams j

-- where a log's line stands: as far on as bytes were joined
abbrev pub standing : Log → MLine
standing g = place_at g.streams (length g.ins)

-- a change at position p to the stream of S(0) s: it begins p - n bytes on
abbrev pub new_stream : Log → ℕ → List ℕ → Log
new_stream g p s =
    record {
      streams = record { since = length g.ins + (p - (standing g).pos); line = plain (standing g).mode (standing g).cipher s 0 0 } ∷ g.streams;
      ins = g.ins;
      outs = g.outs;
    }

-- line i's log after a call; an idle line's log is empty, and so is a loaded one's: a start begins its stream
abbrev pub noted : ℕ → Log → Did → Log
noted i g did_nothing = g
noted i g (did-open j c key iv) = pick (eqb j i) (begun (opened c key iv)) g
noted i g (did-crypt j input output) = pick (eqb j i) (joined g input output) g
noted i g (did-park j image) = pick (eqb j i) (begun idle) g
noted i g (did-resume j image) = pick (eqb j i) (begun (based (image_line image))) g
noted i g (did-close j) = pick (eqb j i) (begun idle) g
noted i g (did-load j c key) = pick (eqb j i) (begun (loaded_line c key)) g
noted i g (did-start j iv) = pick (eqb j i) (begun (started_line (standing g) (iv_for (standing g).cipher iv))) g
noted i g (did-change j p key iv) = pick (eqb j i) (new_stream g p (stream_of (standing g).cipher key iv)) g

abbrev pub log_after : ℕ → Log → List Made → Log
log_after i g [] = g
log_after i g (x ∷ xs) = log_after i (noted i g (did x)) xs

abbrev pub log_of : ℕ → List Made → Log
log_of i xs = log_after i (begun idle) xs
