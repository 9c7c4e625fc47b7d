-- Demand 3: what is claimed of every list of calls from a fresh card. Each line's joined outputs are its joined inputs XORed with one keystream.
-- Assumes nothing.
use Rattle.std.specs.Prelude.{ℕ, ◌/◌, ◌≤◌, List, [], ◌∷◌, ◌++◌, ◌≡◌, get_or}
use Rattle.keystream.specs.Stream.{xor_from}
use Rattle.ciphers.specs.Table.{cipher_at}
use Rattle.machine.specs.Machine.{Line, MLine, plain_line, gen_of, gen_at, byte_of, state_of, image_line, image_from, image_number, iv_for, fresh_machine, fresh_card}
use Rattle.machine.specs.Calls.{Made, machine_run, calls_of, card_after, line_on}
use Rattle.lists.specs.Logs.{did, did-open, did-load, did-start, did-park, did-resume, Log, log_of, standing, key_byte}

-- A line, as it is seen, and its log: the outputs joined are the inputs joined, each byte XORed with the keystream byte of the newest stream that has begun there; the line's position counts
-- from the beginning of that stream, and its state is the one from which that position's byte is read.
pub record Streamed (l : Line) (g : Log) : Type 0 where
  pub mode : l.mode ≡ (standing g).mode
  pub cipher : l.cipher ≡ (standing g).cipher
  pub position : l.n ≡ (standing g).pos
  pub state : l.words ≡ state_of (standing g) (l.n / (gen_of l.cipher).unit)
  pub outputs : g.outs ≡ xor_from (key_byte g) 0 g.ins

-- A line that begins where another stands: it goes on with that line's bytes, and their states.
pub record GoesOn (l l' : MLine) : Type 0 where
  pub mode : l'.mode ≡ l.mode
  pub cipher : l'.cipher ≡ l.cipher
  pub position : l'.pos ≡ l.pos
  pub bytes : (j : ℕ) → l.pos ≤ j → byte_of l' j ≡ byte_of l j
  pub states : (j : ℕ) → l.pos ≤ j → state_of l' (j / (gen_at l).unit) ≡ state_of l (j / (gen_at l).unit)

-- An accepted call on line i: the second byte of every command is its line.
pub record On (i : ℕ) (x : Made) : Type 0 where
  pub accepted : x.code ≡ 0
  pub line-is : get_or x.call.command 1 0 ≡ i

-- no call of these is an accepted one on line i
abbrev pub AllOff : ℕ → List Made → Type 0
AllOff i [] = Unit {0}
AllOff i (y ∷ ys) = (On i y → ⊥) × AllOff i ys

-- Line i after a call is as it was before, on the card and in its log.
pub record Kept (i : ℕ) (before : List Made) (x : Made) : Type 0 where
  pub line-is : line_on x.card i ≡ line_on (card_after fresh_card before) i
  pub log_is : log_of i (before ++ (x ∷ [])) ≡ log_of i before

-- x stands in the list xs after the calls before it.
pub record Stands (before : List Made) (x : Made) (xs : List Made) : Type 0 where
  pub after : List Made
  pub is : xs ≡ before ++ (x ∷ after)

-- The list xs, from a fresh card.
pub record OneStream (xs : List Made) : Type 0 where
  -- every code, count and byte of out, and after each call what is seen of each line and the parks, are the machine's
  pub machine-is : xs ≡ machine_run fresh_machine (calls_of xs)
  -- after the list, each line's joined outputs, its position and its state
  pub streams : (i : ℕ) → Streamed (line_on (card_after fresh_card xs) i) (log_of i xs)
  -- an open begins at position 0, in S(0) of its cipher, key and IV
  pub from_key : {before : List Made} {x : Made} → Stands before x xs → (i c : ℕ) (key iv : List ℕ) → did x ≡ did-open i c key iv →
      line_on x.card i ≡ plain_line 1 c 0 ((cipher_at c).init key iv)
  -- a start begins at position 0, in S(0) of the cipher and the key that were loaded and of its IV, whatever calls on other lines stand between load and start
  pub from-load : {before sofar : List Made} {p x : Made} → Stands sofar x xs → (t : Stands before p sofar) → (i c : ℕ) (key iv : List ℕ) → did p ≡ did-load i c key → did x ≡ did-start i iv →
      AllOff i t.after → line_on x.card i ≡ plain_line 1 c 0 ((cipher_at c).init key (iv_for c iv))
  -- a resume begins at the cipher, the position and the state in its image, whatever image it is
  pub from-image : {before : List Made} {x : Made} → Stands before x xs → (j : ℕ) (image : List ℕ) → did x ≡ did-resume j image →
      line_on x.card j ≡ image_line image
  -- with an image that a park earlier in the list wrote it goes on from the byte where it was parked, on whichever line
  pub goes_on : {before sofar : List Made} {p x : Made} → Stands sofar x xs → Stands before p sofar → (i j : ℕ) (image : List ℕ) →
      did p ≡ did-park i image → did x ≡ did-resume j image →
      GoesOn (standing (log_of i before)) (standing (log_of j (sofar ++ (x ∷ []))))
  -- no two resumes take up the same park: the same number from the same line
  pub once : {before sofar : List Made} {p x : Made} → Stands sofar x xs → Stands before p sofar → (i j : ℕ) (image image' : List ℕ) →
      did p ≡ did-resume i image → did x ≡ did-resume j image' → image_from image ≡ image_from image' → image_number image ≡ image_number image' → ⊥
  -- a call on another line, or a refused one, changes neither a line's stream nor its position nor its state
  pub others : {before : List Made} {x : Made} → Stands before x xs → (i : ℕ) → (On i x → ⊥) → Kept i before x
