-- SNOW 2.0: the first units of annex C.2.1's and C.3.1's first examples, computed from the definitions.
-- Assumes nothing.
use mathlib.Core.Path.{◌≡◌, refl}
use mathlib.Core.List.{[], ◌∷◌}
use lib.ListN.{replicate}
use Rattle.words.specs.Strings.{word_at, four_at, bytes_of}
use Rattle.words.specs.Lists.{shifted, iter}
use Rattle.field.specs.Gf8.{squares}
use Rattle.field.specs.Gf32.{times, times_y}
use Rattle.field.specs.Aes.{sub, mix, fn_t}
use Rattle.snow2.specs.Cipher.{f, fed, clocked, next, next_init, strm, cells, nots, loaded128, loaded256, started, init128, init256, unit}

pub first-unit128 : unit (init128 (0x80 ∷ replicate 15 0) (replicate 16 0)) ≡ 0x8d ∷ 0x59 ∷ 0x0a ∷ 0xe9 ∷ []
unfolding f fed clocked next next_init strm cells nots loaded128 started init128 unit times times_y sub squares mix fn_t shifted iter word_at four_at bytes_of
first-unit128 = refl

pub first-unit256 : unit (init256 (0x80 ∷ replicate 31 0) (replicate 16 0)) ≡ 0x0b ∷ 0x5b ∷ 0xcc ∷ 0xe2 ∷ []
unfolding f fed clocked next next_init strm cells nots loaded256 started init256 unit times times_y sub squares mix fn_t shifted iter word_at four_at bytes_of
first-unit256 = refl
