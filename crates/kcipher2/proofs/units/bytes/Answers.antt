-- `kcipher2::units::bytes` meets its contract: the bytes of the two words of keystream, one word behind the other.
-- Assumes nothing.
use mathlib.Core.Path.{◌≡◌}
use mathlib.Core.List.{List, [], ◌∷◌}
use Prim.Native.Nat.{ℕ}
use lib.ListN.{get_or}
use Rattle.words.specs.Strings.{bytes_of}
use Rattle.kcipher2.specs.declared.Kcipher2.{Kcipher2}
use Rattle.kcipher2.specs.Cipher.{strm, unit}
use borrow.Author.Rules.{rules}
use Rattle.kcipher2.proofs.units.bytes.Goals as goal

bytes-are : (s : Kcipher2) {z h l : List ℕ} → z ≡ strm s → h ≡ bytes_of (get_or z 0 0) → l ≡ bytes_of (get_or z 1 0) →
    (get_or h 0 0 ∷ get_or h 1 0 ∷ get_or h 2 0 ∷ get_or h 3 0 ∷ get_or l 0 0 ∷ get_or l 1 0 ∷ get_or l 2 0 ∷ get_or l 3 0 ∷ []) ≡ unit s
unfolding unit strm bytes_of
bytes-are s e ha hb = rw (ha, hb, e)

pub returns : goal.returns
unfolding bytes_of
returns c = bytes-are c.args.st c.output-z.ensures c.to_be_bytes-h.ensures c.to_be_bytes-l.ensures
