-- What a loaded line keeps of a key, in as many words as a state has (document 02, (vii)): the key's bytes, and of Rabbit in their stead the state after step 3 of 7.3.2; S(0) of what is kept and an
-- IV; and what 255 asks of it.
-- Assumes nothing.
use Rattle.std.specs.Prelude.{Bool, not, List, ℕ, ◌*◌, ◌/◌, eqb, take, drop}
use Rattle.words.specs.Lists.{tab}
use Rattle.words.specs.Strings.{word_at}
use Rattle.words.specs.Tests.{both, pick}
use Rattle.rabbit.specs.Cipher as R
use Rattle.ciphers.specs.States.{state_words, rabbit_words, rabbit_state, spelt}
use Rattle.ciphers.specs.Table.{cipher_at, all_zero}

-- the bytes of a key as words, zeros after them
abbrev pub key_words : List ℕ → List ℕ
key_words key = tab state_words (λ i. word_at key (4 * i))

-- of Rabbit the words of the state after step 3
abbrev pub rabbit_kept : List ℕ → List ℕ
rabbit_kept key = rabbit_words (R.master key)

unfoldable pub kept_of : ℕ → List ℕ → List ℕ
kept_of c key = pick (eqb c 2) (rabbit_kept key) (key_words key)

unfoldable pub start_of : ℕ → (kept iv : List ℕ) → List ℕ
start_of c kept iv = pick (eqb c 2) (rabbit_words (R.started (rabbit_state kept) iv)) ((cipher_at c).init (take (cipher_at c).key (spelt kept)) iv)

-- of Rabbit a state that number 8 admits; else zeros in the words beyond the key's, and a key that is not all zero
unfoldable pub keeps_ok : ℕ → List ℕ → Bool
keeps_ok c kept = pick (eqb c 2) ((cipher_at c).admits kept) (both (all_zero (drop ((cipher_at c).key / 4) kept)) (not (all_zero (take ((cipher_at c).key / 4) kept))))
