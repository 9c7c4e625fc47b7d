-- What 255 asks of what a loaded line keeps, by the arm of its cipher: of Rabbit a state, of SNOW 2.0 with the longer key a key of eight words, of the others one of four.
-- Assumes nothing.
use Rattle.std.proofs.Common.{◌≡◌, ℕ, Bool, not, List, [], ◌∷◌, take, sym, ap, ◌∙◌}
use denote.Enum.Declared.{tag_of}
use types.Run.{OneOf, miss}
use Rattle.words.specs.Tests.{both}
use Rattle.command.specs.contracts.Cipher.{the_type}
use Rattle.command.specs.declared.Cipher.{Cipher}
use Rattle.command.specs.declared.Cipher.TheVariants.{Zuc, Rabbit, Snow128, Snow256, Kcipher2, Mugi}
use Rattle.command.specs.Decode.{number_of}
use Rattle.ciphers.specs.Table.{cipher_at, all_zero, zeros_from, zuc, rabbit, snow128, snow256, kcipher2, mugi}
use Rattle.ciphers.specs.Kept.{keeps_ok}

module _ (w : List ℕ) where
  -- a key of k words and nothing else
  abbrev alone : ℕ → Bool
  alone k = both (zeros_from k w) (not (all_zero (take k w)))

  pub keeps-state : {c : Cipher} {b : Bool} → c ≡ Rabbit → b ≡ rabbit.admits w → b ≡ keeps_ok (number_of c) w
  unfolding keeps_ok cipher_at
  keeps-state e h = h ∙ sym (ap (λ (x : Cipher). keeps_ok (number_of x) w) e)

  pub keeps-long : {c : Cipher} {b : Bool} → c ≡ Snow256 → b ≡ alone 8 → b ≡ keeps_ok (number_of c) w
  unfolding keeps_ok cipher_at snow256
  keeps-long e h = h ∙ sym (ap (λ (x : Cipher). keeps_ok (number_of x) w) e)

  pub keeps-short : {b : Bool} (c : Cipher) → OneOf (0 ∷ 2 ∷ 4 ∷ 5 ∷ []) (tag_of the_type c) → b ≡ alone 4 → b ≡ keeps_ok (number_of c) w
  unfolding keeps_ok cipher_at zuc snow128 kcipher2 mugi
  keeps-short Zuc k h = h
  keeps-short Rabbit k h = absurd (miss (0 ∷ 2 ∷ 4 ∷ 5 ∷ []) 1 tt k)
  keeps-short Snow128 k h = h
  keeps-short Snow256 k h = absurd (miss (0 ∷ 2 ∷ 4 ∷ 5 ∷ []) 3 tt k)
  keeps-short Kcipher2 k h = h
  keeps-short Mugi k h = h
