-- Words of a unit, each written to the part of the buffer after those before it, which is lent and comes back: together they are the bytes of all of them.
-- Assumes nothing.
use mathlib.Core.Path.{refl}
use mathlib.Core.List.{List, ◌++◌}
use Prim.Native.Nat.{ℕ, ◌≤◌}
use lib.ListN.{length}
use Rattle.words.specs.Strings.{bytes_of, bytes_up}
use Rattle.keystream.specs.Stream.{BytesPut}
use Rattle.keystream.proofs.Parts.{lent_from, back_from, put-more}

-- two words, the most significant byte of each first
pub two-put : (a b : ℕ) (text out o1 o2 : List ℕ) → 8 ≤ length text → 8 ≤ length out → BytesPut (bytes_of a) 0 4 text out o1
    → BytesPut (bytes_of b) 0 4 (lent_from 4 text) (lent_from 4 o1) o2 → BytesPut (bytes_of a ++ bytes_of b) 0 8 text out (back_from 4 o1 o2)
unfolding bytes_of
two-put a b text out o1 o2 h q = put-more (bytes_of a) (bytes_of b) 4 4 text out o1 o2 refl h q

-- two words, and four, the least significant byte of each first
pub two-put-up : (a b : ℕ) (text out o1 o2 : List ℕ) → 8 ≤ length text → 8 ≤ length out → BytesPut (bytes_up a) 0 4 text out o1
    → BytesPut (bytes_up b) 0 4 (lent_from 4 text) (lent_from 4 o1) o2 → BytesPut (bytes_up a ++ bytes_up b) 0 8 text out (back_from 4 o1 o2)
unfolding bytes_up
two-put-up a b text out o1 o2 h q = put-more (bytes_up a) (bytes_up b) 4 4 text out o1 o2 refl h q

pub four-put-up : (a b c d : ℕ) (text out o1 o2 : List ℕ) → 16 ≤ length text → 16 ≤ length out → BytesPut (bytes_up a ++ bytes_up b) 0 8 text out o1
    → BytesPut (bytes_up c ++ bytes_up d) 0 8 (lent_from 8 text) (lent_from 8 o1) o2
    → BytesPut (bytes_up a ++ bytes_up b ++ bytes_up c ++ bytes_up d) 0 16 text out (back_from 8 o1 o2)
unfolding bytes_up
four-put-up a b c d text out o1 o2 h q = put-more (bytes_up a ++ bytes_up b) (bytes_up c ++ bytes_up d) 8 8 text out o1 o2 refl h q
