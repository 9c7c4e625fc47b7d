-- KCipher-2: the first unit of annex C.6.1's first example, computed from the definitions.
-- Assumes nothing.
use mathlib.Core.Path.{◌≡◌, refl}
use mathlib.Core.List.{[], ◌∷◌}
use lib.ListN.{replicate}
use Rattle.words.specs.Strings.{word_at, four_at, bytes_of}
use Rattle.words.specs.Lists.{shifted, iter}
use Rattle.field.specs.Gf8.{squares}
use Rattle.field.specs.Gf32.{times, times_y}
use Rattle.field.specs.Aes.{sub, mix, fn_t}
use Rattle.kcipher2.specs.Cipher.{strm_high, strm_low, fed_a, one_or_two, three_or_none, fed_b, clocked, next_init, expanded, cells_a, cells_b, arranged, loaded, init, unit}

pub first-unit : unit (init (replicate 16 0) (replicate 16 0)) ≡ 0xf8 ∷ 0x71 ∷ 0xeb ∷ 0xef ∷ 0x94 ∷ 0x5b ∷ 0x72 ∷ 0x72 ∷ []
unfolding strm_high strm_low fed_a one_or_two three_or_none fed_b clocked next_init expanded cells_a cells_b arranged loaded init unit times times_y sub squares mix fn_t shifted iter word_at four_at bytes_of
first-unit = refl
