-- What a line's streams were made from, as its calls gave it: two ends of a trunk that were given the same hear each other, across every change of key.
-- Assumes nothing.
use Rattle.std.specs.Prelude.{ℕ, ◌+◌, ◌-◌, List, [], ◌∷◌, eqb}
use Rattle.words.specs.Tests.{pick}
use Rattle.machine.specs.Machine.{plain, idle, opened, loaded_line, based, image_line, iv_for, stream_of}
use Rattle.machine.specs.Calls.{Made}
use Rattle.lists.specs.Logs.{Did, did_nothing, did-open, did-crypt, did-park, did-resume, did-close, did-change, did-load, did-start, did, Stream}

-- nothing, for an idle line; a cipher, a key and an IV, by an open or by a load and a start; a cipher and a key, by a load alone; an image; and after each of these changes, each at a position of the stream before it
pub data Given : Type 0 where
  no_stream : Given
  of-key : (c : ℕ) (key iv : List ℕ) → Given
  of-load : (c : ℕ) (key : List ℕ) → Given
  of_image : (image : List ℕ) → Given
  then-changed : Given → (p : ℕ) (key iv : List ℕ) → Given

-- a start after a load of a key; after anything else none is accepted
abbrev pub started_by : Given → List ℕ → Given
started_by no_stream iv = no_stream
started_by (of-key c key iv') iv = no_stream
started_by (of-load c key) iv = of-key c key (iv_for c iv)
started_by (of_image image) iv = no_stream
started_by (then-changed t p key iv') iv = no_stream

-- line i after a call
abbrev pub given_by : ℕ → Given → Did → Given
given_by i t did_nothing = t
given_by i t (did-open j c key iv) = pick (eqb j i) (of-key c key iv) t
given_by i t (did-crypt j input output) = t
given_by i t (did-park j image) = pick (eqb j i) no_stream t
given_by i t (did-resume j image) = pick (eqb j i) (of_image image) t
given_by i t (did-close j) = pick (eqb j i) no_stream t
given_by i t (did-load j c key) = pick (eqb j i) (of-load c key) t
given_by i t (did-start j iv) = pick (eqb j i) (started_by t iv) t
given_by i t (did-change j p key iv) = pick (eqb j i) (then-changed t p key iv) t

abbrev pub given_from : ℕ → Given → List Made → Given
given_from i t [] = t
given_from i t (x ∷ xs) = given_from i (given_by i t (did x)) xs

abbrev pub given_to : ℕ → List Made → Given
given_to i xs = given_from i no_stream xs

-- the streams that come of it, the newest first, each with the number of bytes before its first
abbrev pub newest : List Stream → Stream
newest [] = record { since = 0; line = idle }
newest (s ∷ rest) = s

abbrev pub changed_to : List Stream → ℕ → List ℕ → List ℕ → List Stream
changed_to ss p key iv =
    record {
      since = (newest ss).since + (p - (newest ss).line.pos);
      line = plain 1 (newest ss).line.cipher (stream_of (newest ss).line.cipher key iv) 0 0;
    }
    ∷ ss

abbrev pub streams_by : Given → List Stream
streams_by no_stream = record { since = 0; line = idle } ∷ []
streams_by (of-key c key iv) = record { since = 0; line = opened c key iv } ∷ []
streams_by (of-load c key) = record { since = 0; line = loaded_line c key } ∷ []
streams_by (of_image image) = record { since = 0; line = based (image_line image) } ∷ []
streams_by (then-changed t p key iv) = changed_to (streams_by t) p key iv
