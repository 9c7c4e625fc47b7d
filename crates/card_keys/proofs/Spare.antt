-- The bytes of key and IV beyond the cipher's lengths, the key within them, and what the number says that they give.
-- Assumes nothing.
use mathlib.Core.Path.{◌≡◌, refl, ap, ap₂, sym, ◌∙◌}
use mathlib.Core.Bool.{Bool, true, false, not}
use mathlib.Core.List.{List, [], ◌∷◌}
use Prim.Native.Nat.{ℕ, zero, suc, ◌+◌, ◌≤◌}
use native.Mathlib.Omega.{arith}
use lib.ListN.{length, take, drop, length-drop}
use lib.Seq.{length-take-le}
use Rattle.words.specs.Tests.{both, pick}
use Rattle.card_sizes.specs.Sizes.{key_length}
use Rattle.ciphers.specs.Table.{cipher_at, all_zero}
use Rattle.words.proofs.Tests.{both_true, both_false}
use Rattle.machine.specs.Machine.{spare_used, blank_key}
use Rattle.std.specs.Prelude.{Result, Ok, Err}
use Rattle.std.proofs.Common.{Bor}
use Rattle.command.specs.declared.Refusal.{Refusal}
use Rattle.command.specs.Decode.{refusal_number}
use Rattle.command.proofs.Numbers.{refused}
use Rattle.card_keys.specs.Keys.{key_code, HandedKey, Handed}

module _ (c k : ℕ) (key iv : List ℕ) (ek : k ≡ (cipher_at c).key) where
  spare-is : (b : Bool) → both (all_zero (drop k key)) (all_zero (drop (cipher_at c).iv iv)) ≡ b → spare_used c key iv ≡ not b
  unfolding spare_used
  spare-is b h = ap not (sym (ap (λ (x : ℕ). both (all_zero (drop x key)) (all_zero (drop (cipher_at c).iv iv))) ek) ∙ h)

  pub spare-key : all_zero (drop k key) ≡ false → spare_used c key iv ≡ true
  spare-key h = spare-is false (ap (λ (x : Bool). both x (all_zero (drop (cipher_at c).iv iv))) h)

  pub spare-iv : all_zero (drop (cipher_at c).iv iv) ≡ false → spare_used c key iv ≡ true
  spare-iv h = spare-is false (both_false (all_zero (drop k key)) (all_zero (drop (cipher_at c).iv iv)) h)

  pub spare-none : all_zero (drop k key) ≡ true → all_zero (drop (cipher_at c).iv iv) ≡ true → spare_used c key iv ≡ false
  spare-none h g = spare-is true (both_true h g)

nothing_left : (n : ℕ) → ◌≡◌ {A = List ℕ} (drop n []) []
nothing_left zero = refl
nothing_left (suc n) = refl

-- of an IV alone
pub spare-alone : (c : ℕ) (iv : List ℕ) {b : Bool} → b ≡ all_zero (drop (cipher_at c).iv iv) → spare_used c [] iv ≡ not b
unfolding spare_used
spare-alone c iv e = ap not (ap (λ (x : List ℕ). both (all_zero x) (all_zero (drop (cipher_at c).iv iv))) (nothing_left (cipher_at c).key) ∙ sym e)

-- the key within its length
pub blank-is : (c : ℕ) (key : List ℕ) {k : ℕ} {b : Bool} → k ≡ (cipher_at c).key → all_zero (take k key) ≡ b → blank_key c key ≡ b
unfolding blank_key
blank-is c key e h = sym (ap (λ (x : ℕ). all_zero (take x key)) e) ∙ h

-- ---- what the number says

pub code-used : (c : ℕ) (key iv : List ℕ) → spare_used c key iv ≡ true → 7 ≡ key_code c key iv
unfolding key_code
code-used c key iv e = sym (ap (λ (b : Bool). pick b 7 (pick (blank_key c key) 16 0)) e)

pub code-blank : (c : ℕ) (key iv : List ℕ) → spare_used c key iv ≡ false → blank_key c key ≡ true → 16 ≡ key_code c key iv
unfolding key_code
code-blank c key iv e h = sym (ap₂ (λ (b d : Bool). pick b 7 (pick d 16 0)) e h)

pub code-none : (c : ℕ) (key iv : List ℕ) → spare_used c key iv ≡ false → blank_key c key ≡ false → 0 ≡ key_code c key iv
unfolding key_code
code-none c key iv e h = sym (ap₂ (λ (b d : Bool). pick b 7 (pick d 16 0)) e h)

pub none-by : (c : ℕ) (key iv : List ℕ) → key_code c key iv ≡ 0 → (spare_used c key iv ≡ false) × (blank_key c key ≡ false)
none-by c key iv z = by (spare_used c key iv) (blank_key c key) refl refl
  where
    by : (b d : Bool) → spare_used c key iv ≡ b → blank_key c key ≡ d → (spare_used c key iv ≡ false) × (blank_key c key ≡ false)
    by true d h g = let x : ◌≡◌ {A = ℕ} 7 0 = code-used c key iv h ∙ z in absurd (omega arith)
    by false true h g = let x : ◌≡◌ {A = ℕ} 16 0 = code-blank c key iv h g ∙ z in absurd (omega arith)
    by false false h g = (h, g)

-- ---- what is handed out

pub handed : (c : ℕ) (key iv : List ℕ) {k : ℕ} → 0 ≡ key_code c key iv → k ≡ (cipher_at c).key → HandedKey c key iv (take k key)
unfolding blank_key
handed c key iv {k} z ek =
    let own : take k key ≡ take (cipher_at c).key key = ap (λ (x : ℕ). take x key) ek in
    record { passed = sym z; own = own; not-blank = ap all_zero own ∙ (none-by c key iv (sym z)).1 }

-- what is not handed out is refused by the key's number
pub nothing : (c : ℕ) (key iv : List ℕ) (e : Refusal) → refusal_number e ≡ key_code c key iv → Handed c key iv (Err e)
nothing c key iv e h = h

-- a part is handed out exactly where that number is 0, since no refusal has it
pub handed-code : (c : ℕ) (key iv : List ℕ) (part : Bor (List ℕ)) → Handed c key iv (Ok part) → key_code c key iv ≡ 0
handed-code c key iv part h = h.passed

pub nothing-code : (c : ℕ) (key iv : List ℕ) (e : Refusal) → Handed c key iv (Err e) → key_code c key iv ≡ 0 → ⊥
nothing-code c key iv e h z = refused e (h ∙ z)

-- the bytes of a key are there
pub field-full : (at : ℕ) (l : List ℕ) → at + key_length ≤ length l → length (take key_length (drop at l)) ≡ key_length
field-full at l h = length-take-le key_length (drop at l) (omega (arith, length-drop at l, h))
