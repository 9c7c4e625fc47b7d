-- MUGI: the first unit of annex C.1.2's example, whose key and IV differ in every byte, computed from the definitions.
-- Assumes nothing.
use mathlib.Core.Path.{◌≡◌, refl}
use mathlib.Core.List.{[], ◌∷◌}
use Prim.Native.Nat.{◌-◌, ◌*◌}
use Rattle.words.specs.Strings.{word_at, bytes_of}
use Rattle.words.specs.Lists.{tab, iter}
use Rattle.field.specs.Gf8.{squares}
use Rattle.field.specs.Aes.{sub}
use Rattle.mugi.specs.Cipher.{block_at, m, mixed_half, shuffled, f, rho1, lambda1, next, strm, spread, turned, filled, keyed, added, with_iv, init, unit}

pub first-unit : unit (init (tab 16 (λ j. j)) (tab 16 (λ j. 0xf0 - 16 * j))) ≡ 0xbc ∷ 0x62 ∷ 0x43 ∷ 0x06 ∷ 0x14 ∷ 0xb7 ∷ 0x9b ∷ 0x71 ∷ []
unfolding block_at m mixed_half shuffled f rho1 lambda1 next strm spread turned filled keyed added with_iv init unit sub squares iter word_at bytes_of
first-unit = refl
