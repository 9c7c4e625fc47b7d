-- What the byte of a line or of an image says of its cipher: it is the number of the cipher that is read from it, or no cipher's.
-- Assumes nothing.
use mathlib.Core.Path.{◌≡◌, refl, ap, subst, ◌∙◌}
use mathlib.Core.Bool.{Bool, true, false}
use Prim.Native.Nat.{ℕ, zero, suc}
use native.Mathlib.Omega.{arith}
use lib.Dec.{leb, eqb}
use borrow.Author.Tests.{eqb-true, eqb-false, lt-leb}
use Rattle.std.specs.Prelude.{Result, Ok, Err}
use Rattle.words.specs.Tests.{both, pick}
use Rattle.command.specs.declared.Cipher.{Cipher}
use Rattle.command.specs.declared.Cipher.TheVariants.{Zuc, Rabbit, Snow128, Snow256, Kcipher2, Mugi}
use Rattle.command.specs.declared.Refusal.{Refusal}
use Rattle.command.specs.declared.Refusal.TheVariants.{UnknownCipher}
use Rattle.command.specs.Decode.{number_of, read_of}
use Rattle.ciphers.specs.Table.{is_cipher}
use Rattle.words.proofs.Tests.{both_false}

pub is-cipher : (c : Cipher) → is_cipher (number_of c) ≡ true
is-cipher Zuc = refl
is-cipher Rabbit = refl
is-cipher Snow128 = refl
is-cipher Snow256 = refl
is-cipher Kcipher2 = refl
is-cipher Mugi = refl

-- a byte, and what is read from it
pub data Reads (b : ℕ) : Result Cipher Refusal → Type 0 where
  reads : {c : Cipher} → b ≡ number_of c → is_cipher b ≡ true → Reads b (Ok c)
  reads_none : is_cipher b ≡ false → Reads b (Err UnknownCipher)

none_of : (b : ℕ) → (b ≡ 1 → ⊥) → (b ≡ 2 → ⊥) → (b ≡ 3 → ⊥) → (b ≡ 4 → ⊥) → (b ≡ 5 → ⊥) → (b ≡ 6 → ⊥) → is_cipher b ≡ false
none_of zero p q r s t u = refl
none_of (suc zero) p q r s t u = absurd (p refl)
none_of (suc (suc zero)) p q r s t u = absurd (q refl)
none_of (suc (suc (suc zero))) p q r s t u = absurd (r refl)
none_of (suc (suc (suc (suc zero)))) p q r s t u = absurd (s refl)
none_of (suc (suc (suc (suc (suc zero))))) p q r s t u = absurd (t refl)
none_of (suc (suc (suc (suc (suc (suc zero)))))) p q r s t u = absurd (u refl)
none_of (suc (suc (suc (suc (suc (suc (suc n))))))) p q r s t u =
    let b : ℕ = suc (suc (suc (suc (suc (suc (suc n)))))) in
    both_false (leb 1 b) (leb b 6) (lt-leb b 6 (omega arith))

module _ (b : ℕ) where
  row : (c : Cipher) (d : Result Cipher Refusal) → is_cipher (number_of c) ≡ true → ((b ≡ number_of c → ⊥) → Reads b d) → Reads b (pick (eqb b (number_of c)) (Ok c) d)
  row c d t h = by (eqb b (number_of c)) refl
    where
      by : (x : Bool) → eqb b (number_of c) ≡ x → Reads b (pick x (Ok c) d)
      by true e = let z = eqb-true b (number_of c) e in reads z (ap is_cipher z ∙ t)
      by false e = h (eqb-false b (number_of c) e)

  pub byte_reads : Reads b (read_of b)
  unfolding read_of
  byte_reads =
      row Zuc _ refl (λ p. row Rabbit _ refl (λ q. row Snow128 _ refl (λ r. row Snow256 _ refl (λ s. row Kcipher2 _ refl (λ t. row Mugi _ refl (λ u. reads_none (none_of b p q r s t u)))))))

  none-by : {e : Refusal} → Reads b (Err e) → (is_cipher b ≡ false) × (e ≡ UnknownCipher)
  none-by (reads_none t) = (t, refl)

  is-by : {c : Cipher} → Reads b (Ok c) → (b ≡ number_of c) × (is_cipher b ≡ true)
  is-by (reads e t) = (e, t)

  pub read_none : {e : Refusal} → read_of b ≡ Err e → is_cipher b ≡ false
  read_none e = (none-by (subst (Reads b) e byte_reads)).0

  -- what refuses it is number 4
  pub read_unknown : {e : Refusal} → read_of b ≡ Err e → e ≡ UnknownCipher
  read_unknown e = (none-by (subst (Reads b) e byte_reads)).1

  pub read_is : {c : Cipher} → read_of b ≡ Ok c → (b ≡ number_of c) × (is_cipher b ≡ true)
  read_is e = is-by (subst (Reads b) e byte_reads)
