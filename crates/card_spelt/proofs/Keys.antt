-- A key that is stored word by word over zeros is the words that a line keeps of it: beyond its own words those are zeros.
-- Assumes nothing.
use mathlib.Core.Path.{◌≡◌, refl, sym}
use mathlib.Core.List.{List, ◌++◌}
use Prim.Native.Nat.{ℕ, zero, suc, ◌*◌, ◌≤◌}
use native.Mathlib.Omega.{arith}
use lib.ListN.{length, drop, replicate}
use Rattle.words.specs.Lists.{All, Byte, tab}
use Rattle.words.specs.Strings.{word_at}
use Rattle.words.proofs.Registers.{cons}
use Rattle.ciphers.specs.States.{state_words}
use Rattle.ciphers.specs.Kept.{key_words}
use Rattle.ciphers.proofs.Kept.{beyond}

tab-zeros : (m n : ℕ) (f : ℕ → ℕ) → ((i : ℕ) → m ≤ i → f i ≡ 0) → m ≤ n → tab m f ++ drop m (replicate n 0) ≡ tab n f
tab-zeros zero zero f h q = refl
tab-zeros zero (suc n) f h q = cons (sym (h zero (omega arith))) (tab-zeros zero n (λ i. f (suc i)) (λ i _. h (suc i) (omega arith)) (omega arith))
tab-zeros (suc m) zero f h q = absurd (omega (arith, q))
tab-zeros (suc m) (suc n) f h q = cons refl (tab-zeros m n (λ i. f (suc i)) (λ i p. h (suc i) (omega (arith, p))) (omega (arith, q)))

pub words-stored : (key : List ℕ) → All Byte key → (m : ℕ) → length key ≡ 4 * m → m ≤ state_words → tab m (λ i. word_at key (4 * i)) ++ drop m (replicate state_words 0) ≡ key_words key
words-stored key h m e q = tab-zeros m state_words (λ i. word_at key (4 * i)) (beyond key h m e q) q
