-- Which byte of which keystream each byte that a crypt made was XORed with, noted by what the calls were given and what they answered; and the claim that no keystream byte is used twice, on
-- whatever lines and across parks, resumes and changes of key.
-- Assumes nothing.
use Rattle.std.specs.Prelude.{ℕ, zero, suc, ◌+◌, ◌-◌, ◌<◌, ◌≡◌, List, [], ◌∷◌, ◌++◌, map, eqb, ltb, length}
use Rattle.words.specs.Tests.{pick}
use Rattle.keystream.specs.Stream.{xor_from}
use Rattle.machine.specs.Machine.{byte_of, opened, key_for, iv_for, image_from}
use Rattle.machine.specs.Calls.{Made}
use Rattle.lists.specs.Logs.{Did, did_nothing, did-open, did-crypt, did-park, did-resume, did-close, did-change, did-load, did-start, did}
use Rattle.lists.specs.OneStream.{Stands}

-- ---- bytes of keystreams

-- what a stream is made from: the cipher, the key and the IV that an open was given, or a load and its start, or the line's cipher and what a change was given
pub record Origin : Type 0 where
  pub cipher : ℕ
  pub key : List ℕ
  pub iv : List ℕ

-- a byte of a keystream: the stream's origin and the byte's position in it
pub record KeyByte : Type 0 where
  pub origin : Origin
  pub position : ℕ

-- and its value
abbrev pub value_of : KeyByte → ℕ
value_of b = byte_of (opened b.origin.cipher b.origin.key b.origin.iv) b.position

-- a stream's bytes from its first on
abbrev pub bytes_from : Origin → ℕ → KeyByte
bytes_from o k = record { origin = o; position = k }

-- bytes to come, with a change at position p to the stream of o: those before p stay, and the new stream's follow from its first on
unfoldable pub changed_at : (ℕ → KeyByte) → (p : ℕ) → Origin → ℕ → KeyByte
changed_at f p o k = let left = p - (f 0).position in pick (ltb k left) (f k) (bytes_from o (k - left))

-- the first n of bytes to come
abbrev pub first_bytes : ℕ → (ℕ → KeyByte) → List KeyByte
first_bytes zero f = []
first_bytes (suc n) f = f zero ∷ first_bytes n (λ k. f (suc k))

-- ---- notes

-- Of each line the cipher and the key of its last load, the bytes to come for it, the next being byte 0, and those that were to come when it was last parked; and the origins of the streams that were
-- begun, the images that parks wrote and the bytes that crypts used, the oldest first. What is noted of a line that is not loaded, open or parked is not read.
pub record Notes : Type 0 where
  pub load : ℕ → Origin
  pub coming : ℕ → ℕ → KeyByte
  pub parked : ℕ → ℕ → KeyByte
  pub begun : List Origin
  pub images : List (List ℕ)
  pub used : List KeyByte

abbrev pub no_origin : Origin
no_origin = record { cipher = 0; key = []; iv = [] }

abbrev pub no_notes : Notes
no_notes = record { load = λ i. no_origin; coming = λ i. bytes_from no_origin; parked = λ i. bytes_from no_origin; begun = []; images = []; used = [] }

-- x for line i, and for the others what there was
abbrev pub for_line : {A : Type 0} → (i : ℕ) → A → (ℕ → A) → ℕ → A
for_line i x f j = pick (eqb i j) x (f j)

-- the stream of o is begun, and these are the bytes to come for line i
abbrev pub begins : Notes → (i : ℕ) → (ℕ → KeyByte) → Origin → Notes
begins t i f o = record { load = t.load; coming = for_line i f t.coming; parked = t.parked; begun = t.begun ++ (o ∷ []); images = t.images; used = t.used }

-- the origin of the stream that a change, and that a start brings
abbrev pub change_origin : Notes → (i : ℕ) (key iv : List ℕ) → Origin
change_origin t i key iv = let c = (t.coming i 0).origin.cipher in record { cipher = c; key = key_for c key; iv = iv_for c iv }

abbrev pub start_origin : Notes → (i : ℕ) (iv : List ℕ) → Origin
start_origin t i iv = record { cipher = (t.load i).cipher; key = (t.load i).key; iv = iv_for (t.load i).cipher iv }

-- After a call. A crypt uses as many of its line's bytes to come as it has bytes of input; a park keeps its line's, and a resume takes up those of the line that is in its image.
abbrev pub note_call : Notes → Did → Notes
note_call t did_nothing = t
note_call t (did-open i c key iv) = begins t i (bytes_from (record { cipher = c; key = key; iv = iv })) (record { cipher = c; key = key; iv = iv })
note_call t (did-crypt i input output) =
    record {
      load = t.load;
      coming = for_line i (λ k. t.coming i (length input + k)) t.coming;
      parked = t.parked;
      begun = t.begun;
      images = t.images;
      used = t.used ++ first_bytes (length input) (t.coming i);
    }
note_call t (did-park i image) =
    record { load = t.load; coming = t.coming; parked = for_line i (t.coming i) t.parked; begun = t.begun; images = t.images ++ (image ∷ []); used = t.used }
note_call t (did-resume i image) =
    record { load = t.load; coming = for_line i (t.parked (image_from image)) t.coming; parked = t.parked; begun = t.begun; images = t.images; used = t.used }
note_call t (did-close i) = t
note_call t (did-change i p key iv) = begins t i (changed_at (t.coming i) p (change_origin t i key iv)) (change_origin t i key iv)
note_call t (did-load i c key) =
    record { load = for_line i (record { cipher = c; key = key; iv = [] }) t.load; coming = t.coming; parked = t.parked; begun = t.begun; images = t.images; used = t.used }
note_call t (did-start i iv) = begins t i (bytes_from (start_origin t i iv)) (start_origin t i iv)

abbrev pub notes_after : Notes → List Did → Notes
notes_after t [] = t
notes_after t (d ∷ ds) = notes_after (note_call t d) ds

abbrev pub notes_of : List Made → Notes
notes_of xs = notes_after no_notes (map did xs)

-- ---- what is asked of a list

pub data In {A : Type 0} (x : A) : List A → Type 0 where
  in_head : {l : List A} → In x (x ∷ l)
  in_tail : {y : A} {l : List A} → In x l → In x (y ∷ l)

-- nothing stands twice in a list
abbrev pub NoneTwice : {A : Type 0} → List A → Type 0
NoneTwice [] = Unit {0}
NoneTwice (x ∷ xs) = (In x xs → ⊥) × NoneTwice xs

-- no two accepted opens, starts and changes were given the same cipher, key and IV
abbrev pub FreshKeys : List Made → Type 0
FreshKeys xs = NoneTwice (notes_of xs).begun

-- every accepted resume brings an image that a park before it in the list wrote
abbrev pub UnalteredAfter : Notes → List Did → Type 0
UnalteredAfter t [] = Unit {0}
UnalteredAfter t (d ∷ ds) = ((j : ℕ) (image : List ℕ) → d ≡ did-resume j image → In image t.images) × UnalteredAfter (note_call t d) ds

abbrev pub Unaltered : List Made → Type 0
Unaltered xs = UnalteredAfter no_notes (map did xs)

-- ---- what is claimed

-- A crypt on line i: each byte of its output is that of its input XORed with one of the bytes to come for its line, in their order, and these are noted as used.
pub record CryptUses (before : List Made) (x : Made) (i : ℕ) (input output : List ℕ) : Type 0 where
  pub written : output ≡ xor_from (λ k. value_of ((notes_of before).coming i k)) 0 input
  pub noted : (notes_of (before ++ (x ∷ []))).used ≡ (notes_of before).used ++ first_bytes (length input) ((notes_of before).coming i)

pub record KeystreamOnce (xs : List Made) : Type 0 where
  -- every byte that a crypt made was XORed with the keystream byte that is noted for it
  pub crypts : {before : List Made} {x : Made} → Stands before x xs → (i : ℕ) (input output : List ℕ) → did x ≡ did-crypt i input output → CryptUses before x i input output
  -- no two of all the notes of the list have the same cipher, key, IV and position
  pub once : NoneTwice (notes_of xs).used
  -- said of two crypts: byte k of the first and byte l of the second were not XORed with the same one
  pub no-two-crypts : {before sofar : List Made} {x y : Made} → Stands sofar y xs → Stands before x sofar → (i j : ℕ) (input output input' output' : List ℕ) →
      did x ≡ did-crypt i input output → did y ≡ did-crypt j input' output' → (k l : ℕ) → k < length input → l < length input' →
      (notes_of before).coming i k ≡ (notes_of sofar).coming j l → ⊥
