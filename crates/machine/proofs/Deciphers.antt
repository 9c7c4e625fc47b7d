-- Deciphering gives back the plaintext: a byte XORed twice with the same byte is itself, so a text enciphered twice from the same line at the same position is itself.
-- Assumes nothing.
use mathlib.Core.Path.{◌≡◌, refl, ap, ap₂, ◌∙◌}
use mathlib.Core.List.{List, [], ◌∷◌}
use Prim.Native.Nat.{ℕ, suc}
use lib.Bits.{xor_self, xor_zero_r}
use Rattle.words.specs.Word.{◌⊕◌}
use Rattle.words.proofs.Xor.{xor_assoc}
use Rattle.keystream.specs.Stream.{xor_from}
use Rattle.machine.specs.Machine.{MLine, moved, enciphered}
use Rattle.machine.proofs.Moves.{byte_here, enciphered-bytes}

xor-twice : (d k : ℕ) → (d ⊕ k) ⊕ k ≡ d
xor-twice d k = xor_assoc d k k ∙ ap (λ (x : ℕ). d ⊕ x) (xor_self k) ∙ xor_zero_r d

pub twice : (f : ℕ → ℕ) (n : ℕ) (text : List ℕ) → xor_from f n (xor_from f n text) ≡ text
unfolding xor_from
twice f n [] = refl
twice f n (d ∷ text) = ap₂ ◌∷◌ (xor-twice d (f n)) (twice f (suc n) text)

-- enciphered again from the same key, IV and position, across a change that waits too
pub deciphered : (l : MLine) (text : List ℕ) → enciphered l (enciphered l text) ≡ text
deciphered l text =
    let f : ℕ → ℕ = λ j. byte_here (moved l j) in
    enciphered-bytes l (enciphered l text) ∙ ap (xor_from f 0) (enciphered-bytes l text) ∙ twice f 0 text
