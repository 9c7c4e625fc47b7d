-- What is kept of a key and what is started, by whether the cipher is Rabbit; and that the front of what eight words spell is a key.
-- Assumes nothing.
use mathlib.Core.Path.{◌≡◌, refl, ap, ap₂, sym, ◌∙◌}
use mathlib.Core.Bool.{Bool, true, false}
use mathlib.Core.List.{List, [], ◌∷◌, ◌++◌, append-nil}
use Prim.Native.Nat.{ℕ, ◌*◌, ◌%◌}
use native.Mathlib.Omega.{arith}
use denote.Enum.Declared.{tag_of}
use types.Run.{OneOf, miss}
use lib.Dec.{eqb}
use lib.ListN.{length, take, drop, replicate}
use lib.Seq.{take-take, length-take-le}
use Rattle.words.specs.Tests.{pick}
use Rattle.rabbit.specs.Cipher.{master, started}
use Rattle.command.specs.contracts.Cipher.{the_type}
use Rattle.command.specs.declared.Cipher.{Cipher}
use Rattle.command.specs.declared.Cipher.TheVariants.{Zuc, Rabbit, Snow128, Snow256, Kcipher2, Mugi}
use Rattle.command.specs.Decode.{number_of}
use Rattle.card_sizes.specs.Sizes.{key_length}
use Rattle.ciphers.specs.States.{state_words, rabbit_words, rabbit_state, spelt}
use Rattle.ciphers.specs.Table.{cipher_at, zuc, rabbit, snow128, snow256, kcipher2, mugi}
use Rattle.ciphers.specs.Kept.{key_words, rabbit_kept, kept_of, start_of, keeps_ok}
use Rattle.ciphers.proofs.Rows.{every-row, key_fits}
use Rattle.ciphers.proofs.Kept.{spelt-take}

-- ---- Rabbit

pub rabbit-key : {c : Cipher} → c ≡ Rabbit → (cipher_at (number_of c)).key ≡ 16
unfolding cipher_at rabbit
rabbit-key e = ap (λ (x : Cipher). (cipher_at (number_of x)).key) e

pub rabbit-kept : {c : Cipher} {w : List ℕ} (key : List ℕ) → c ≡ Rabbit → w ≡ rabbit_words (master key) → w ≡ kept_of (number_of c) key
unfolding kept_of
rabbit-kept key e h = h ∙ sym (ap (λ (x : Cipher). kept_of (number_of x) key) e)

pub rabbit-admits : {c : Cipher} (kept : List ℕ) → c ≡ Rabbit → keeps_ok (number_of c) kept ≡ true → rabbit.admits kept ≡ true
unfolding keeps_ok cipher_at
rabbit-admits kept e h = sym (ap (λ (x : Cipher). keeps_ok (number_of x) kept) e) ∙ h

pub rabbit-started : {c : Cipher} {w : List ℕ} (kept iv : List ℕ) → c ≡ Rabbit → w ≡ rabbit_words (started (rabbit_state kept) (take 8 iv)) →
    w ≡ start_of (number_of c) kept (take (cipher_at (number_of c)).iv iv)
unfolding start_of cipher_at rabbit
rabbit-started kept iv e h = h ∙ sym (ap (λ (x : Cipher). start_of (number_of x) kept (take (cipher_at (number_of x)).iv iv)) e)

-- ---- every other cipher

-- the arm of the others
not-rabbit : (c : Cipher) → OneOf (0 ∷ 2 ∷ 3 ∷ 4 ∷ 5 ∷ []) (tag_of the_type c) → eqb (number_of c) 2 ≡ false
not-rabbit Zuc k = refl
not-rabbit Rabbit k = absurd (miss (0 ∷ 2 ∷ 3 ∷ 4 ∷ 5 ∷ []) 1 tt k)
not-rabbit Snow128 k = refl
not-rabbit Snow256 k = refl
not-rabbit Kcipher2 k = refl
not-rabbit Mugi k = refl

module _ (c : Cipher) (k : OneOf (0 ∷ 2 ∷ 3 ∷ 4 ∷ 5 ∷ []) (tag_of the_type c)) where
  pub key-kept : {w : List ℕ} (key : List ℕ) → w ≡ key_words key → w ≡ kept_of (number_of c) key
  unfolding kept_of
  key-kept key h = h ∙ sym (ap (λ (b : Bool). pick b (rabbit_kept key) (key_words key)) (not-rabbit c k))

  pub key-started : {w : List ℕ} (kept iv : List ℕ) → w ≡ (cipher_at (number_of c)).init (take (cipher_at (number_of c)).key (spelt kept)) iv → w ≡ start_of (number_of c) kept iv
  unfolding start_of
  key-started kept iv h =
      h ∙ sym (ap (λ (b : Bool). pick b (rabbit_words (started (rabbit_state kept) iv)) ((cipher_at (number_of c)).init (take (cipher_at (number_of c)).key (spelt kept)) iv)) (not-rabbit c k))

-- ---- a key as words

-- the key of every cipher is whole words
pub key-whole : (c : ℕ) → (cipher_at c).key % 4 ≡ 0
unfolding zuc rabbit snow128 snow256 kcipher2 mugi
key-whole = every-row (λ r. r.key % 4 ≡ 0) refl refl refl refl refl refl

-- the bytes of eight words, of which a key is the front
pub key-front : (c : ℕ) (kept : List ℕ) {key : List ℕ} {k : ℕ} → length kept ≡ state_words → k ≡ (cipher_at c).key
    → key ≡ spelt (take 8 kept) ++ drop (4 * length (take 8 kept)) (replicate key_length 0) → take k key ≡ take (cipher_at c).key (spelt kept)
key-front c kept n e h =
    let eight : length (take 8 kept) ≡ 8 = length-take-le 8 kept (omega (arith, n)) in
    let spells = h ∙ ap (λ (i : ℕ). spelt (take 8 kept) ++ drop (4 * i) (replicate key_length 0)) eight ∙ append-nil (spelt (take 8 kept)) ∙ sym (spelt-take 8 kept) in
    ap₂ (λ (i : ℕ) (l : List ℕ). take i l) e spells ∙ take-take (cipher_at c).key key_length (spelt kept) (key_fits c)
