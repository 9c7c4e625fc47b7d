-- What a park writes and what becomes of a parked call that is brought back, in every list of calls from a fresh card; and what of two lists makes a park write the same.
-- Assumes nothing.
use Rattle.std.specs.Prelude.{◌≡◌, List, [], ◌∷◌, ℕ, suc, ◌+◌, eqb, Ok}
use Rattle.words.specs.Tests.{pick}
use Rattle.command.specs.declared.Command.TheVariants.{Resume}
use Rattle.command.specs.Decode.{decode_of}
use Rattle.machine.specs.Machine.{fresh_card, image_in, image_from, image_number}
use Rattle.machine.specs.Calls.{Made, card_after, line_on}
use Rattle.lists.specs.Logs.{Did, did_nothing, did-open, did-crypt, did-park, did-resume, did-close, did-change, did-load, did-start, did}
use Rattle.lists.specs.OneStream.{Stands}

-- x is a whole resume command with this image, for line j, which is idle before it
pub record Brings (j : ℕ) (image : List ℕ) (sofar : List Made) (x : Made) : Type 0 where
  pub read_as : decode_of x.call.command ≡ Ok (Resume j)
  pub image-is : image_in x.call.command ≡ image
  pub idle-line : (line_on (card_after fresh_card sofar) j).mode ≡ 0

-- y is neither an accepted park from line i nor an accepted resume with line i and number k
pub record LeavesPark (i k : ℕ) (y : Made) : Type 0 where
  pub no-park : (image : List ℕ) → did y ≡ did-park i image → ⊥
  pub no-resume : (j : ℕ) (image : List ℕ) → did y ≡ did-resume j image → image_from image ≡ i → image_number image ≡ k → ⊥

abbrev pub AllLeave : (i k : ℕ) → List Made → Type 0
AllLeave i k [] = Unit {0}
AllLeave i k (y ∷ ys) = LeavesPark i k y × AllLeave i k ys

-- the accepted parks from line i in a list
abbrev pub park_on : ℕ → Did → ℕ
park_on i did_nothing = 0
park_on i (did-open j c key iv) = 0
park_on i (did-crypt j input output) = 0
park_on i (did-park j image) = pick (eqb j i) 1 0
park_on i (did-resume j image) = 0
park_on i (did-close j) = 0
park_on i (did-change j p key iv) = 0
park_on i (did-load j c key) = 0
park_on i (did-start j iv) = 0

abbrev pub parks_from : ℕ → List Made → ℕ
parks_from i [] = 0
parks_from i (x ∷ xs) = park_on i (did x) + parks_from i xs

pub record ParkedCalls (xs : List Made) : Type 0 where
  -- a park writes its line, and the number of its line's parks with it
  pub numbered : {before : List Made} {p : Made} → Stands before p xs → (i : ℕ) (image : List ℕ) → did p ≡ did-park i image →
      (image_from image ≡ i) × (image_number image ≡ suc (parks_from i before))
  -- an image that a park wrote is accepted on any idle line, as long as its line has not parked again and it has not been taken up
  pub accepted : {before sofar : List Made} {p x : Made} → Stands sofar x xs → (t : Stands before p sofar) → (i j : ℕ) (image : List ℕ) → did p ≡ did-park i image →
      AllLeave i (image_number image) t.after → Brings j image sofar x → x.code ≡ 0
  -- after another accepted park from its line it is answered 14
  pub replaced : {before between sofar : List Made} {p y x : Made} → Stands sofar x xs → Stands between y sofar → Stands before p between → (i j : ℕ) (image image' : List ℕ) →
      did p ≡ did-park i image → did y ≡ did-park i image' → Brings j image sofar x → x.code ≡ 14
  -- and so it is after an accepted resume with its line and number
  pub taken-before : {before between sofar : List Made} {p y x : Made} → Stands sofar x xs → Stands between y sofar → Stands before p between → (i j k : ℕ) (image image' : List ℕ) →
      did p ≡ did-park i image → did y ≡ did-resume k image' → image_from image' ≡ i → image_number image' ≡ image_number image → Brings j image sofar x → x.code ≡ 14

-- line i after two lists: the same cipher, position and state, and as many accepted parks from it
pub record SameParks (i : ℕ) (before before' : List Made) : Type 0 where
  pub cipher : (line_on (card_after fresh_card before) i).cipher ≡ (line_on (card_after fresh_card before') i).cipher
  pub position : (line_on (card_after fresh_card before) i).n ≡ (line_on (card_after fresh_card before') i).n
  pub state : (line_on (card_after fresh_card before) i).words ≡ (line_on (card_after fresh_card before') i).words
  pub count : parks_from i before ≡ parks_from i before'

-- accepted parks from it then write the same bytes, whatever else the two lists hold
pub record SameImages (xs ys : List Made) : Type 0 where
  pub same-image : {before before' : List Made} {p q : Made} → Stands before p xs → Stands before' q ys → (i : ℕ) (image image' : List ℕ) → did p ≡ did-park i image → did q ≡ did-park i image' →
      SameParks i before before' → image ≡ image'
