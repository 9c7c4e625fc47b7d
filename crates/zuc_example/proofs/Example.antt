-- ZUC: the first unit of annex C.7.1's first example, computed from the definitions.
-- Assumes nothing.
use mathlib.Core.Path.{◌≡◌, refl}
use mathlib.Core.List.{[], ◌∷◌}
use lib.ListN.{replicate}
use Rattle.words.specs.Strings.{bytes_of}
use Rattle.words.specs.Lists.{shifted, iter}
use Rattle.zuc_tables.specs.Tables.{sub1, sub2, d}
use Rattle.zuc.specs.Cipher.{l1, l2, ss, w, weighed, mended, fed, fed_init, next_r1, next_r2, clocked, next, next_init, strm, loaded, init, unit}

pub first-unit : unit (init (replicate 16 0) (replicate 16 0)) ≡ 0x27 ∷ 0xbe ∷ 0xde ∷ 0x74 ∷ []
unfolding sub1 sub2 d l1 l2 ss w weighed mended fed fed_init next_r1 next_r2 clocked next next_init strm loaded init unit shifted iter bytes_of
first-unit = refl
