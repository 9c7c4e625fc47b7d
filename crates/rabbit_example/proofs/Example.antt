-- Rabbit: the first unit of annex C.4.2's fourth example, whose key and IV differ in every byte, computed from the definitions.
-- Assumes nothing.
use mathlib.Core.Path.{◌≡◌, refl}
use mathlib.Core.List.{[], ◌∷◌}
use Rattle.words.specs.Strings.{bytes_up}
use Rattle.words.specs.Lists.{tab, iter}
use Rattle.rabbit_tables.specs.Tables.{a_list}
use Rattle.rabbit.specs.Cipher.{g, carry_at, counted, gs, mixed, next, half_at, parts8, parts4, arranged, loaded, master, iv_words, modified, with_iv, started, init, unit}

pub first-unit : unit (init (tab 16 (λ j. j)) (tab 8 (λ j. j)))
    ≡ 0xf2 ∷ 0x89 ∷ 0x19 ∷ 0xdd ∷ 0xa1 ∷ 0x28 ∷ 0xf8 ∷ 0xf9 ∷ 0x0a ∷ 0x30 ∷ 0x34 ∷ 0x6e ∷ 0x97 ∷ 0x94 ∷ 0xd2 ∷ 0xb7 ∷ []
unfolding a_list g carry_at counted gs mixed next half_at parts8 parts4 arranged loaded master iv_words modified with_iv started init unit iter bytes_up
first-unit = refl
