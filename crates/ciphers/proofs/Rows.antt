-- What holds of each row of the table of ciphers holds of every number's; so every key and every IV fits in its field.
-- Assumes nothing.
use mathlib.Core.Bool.{Bool, true, false}
use Prim.Native.Nat.{ℕ, ◌≤◌}
use lib.Dec.{eqb, lit≤}
use Rattle.words.specs.Tests.{pick}
use Rattle.card_sizes.specs.Sizes.{key_length, iv_length}
use Rattle.ciphers.specs.Table.{CipherRow, cipher_at, zuc, rabbit, snow128, snow256, kcipher2, mugi}

module _ (P : CipherRow → Type 0) where
  either : (b : Bool) {x y : CipherRow} → P x → P y → P (pick b x y)
  either true h k = h
  either false h k = k

  pub every-row : P zuc → P rabbit → P snow128 → P snow256 → P kcipher2 → P mugi → (c : ℕ) → P (cipher_at c)
  unfolding cipher_at
  every-row z r s t k m c = either (eqb c 1) z (either (eqb c 2) r (either (eqb c 3) s (either (eqb c 4) t (either (eqb c 5) k m))))

pub key_fits : (c : ℕ) → (cipher_at c).key ≤ key_length
unfolding zuc rabbit snow128 snow256 kcipher2 mugi
key_fits = every-row (λ r. r.key ≤ key_length) (lit≤ tt) (lit≤ tt) (lit≤ tt) (lit≤ tt) (lit≤ tt) (lit≤ tt)

pub iv-fits : (c : ℕ) → (cipher_at c).iv ≤ iv_length
unfolding zuc rabbit snow128 snow256 kcipher2 mugi
iv-fits = every-row (λ r. r.iv ≤ iv_length) (lit≤ tt) (lit≤ tt) (lit≤ tt) (lit≤ tt) (lit≤ tt) (lit≤ tt)
