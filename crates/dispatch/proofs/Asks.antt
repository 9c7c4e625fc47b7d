-- What a caller knows of the cipher that it names is what the cipher's own functions ask and give, once it is known which it is.
-- Assumes nothing.
use mathlib.Core.Path.{◌≡◌, sym, subst}
use mathlib.Core.List.{List}
use mathlib.Core.Bool.{true}
use Prim.Native.Nat.{ℕ, ◌≤◌, ◌<◌}
use lib.ListN.{length, get_or}
use Rattle.words.specs.Lists.{Byte}
use Rattle.words.proofs.Ranges.{all_known}
use Rattle.command.specs.declared.Cipher.{Cipher}
use Rattle.command.specs.Decode.{number_of}
use Rattle.ciphers.specs.States.{state_words}
use Rattle.ciphers.specs.Table.{Interface, cipher_at}
use Rattle.ciphers.proofs.Sound.{Laws}
use Rattle.ciphers.proofs.Along.{Gives}

-- what a crypt asks of its caller
abbrev pub Asks : Cipher → List ℕ → ℕ → ℕ → ℕ → Type 0
Asks c w skip m k = ((length w ≡ state_words) × ((cipher_at (number_of c)).admits w ≡ true)) × ((skip < (cipher_at (number_of c)).gen.unit) × (m ≤ k))

pub asks : {c d : Cipher} (w : List ℕ) (skip m k : ℕ) → c ≡ d → Asks c w skip m k → Asks d w skip m k
asks w skip m k e h = subst (λ (x : Cipher). Asks x w skip m k) e h

pub gives : {c d : Cipher} (skip : ℕ) (text out : List ℕ) (w w' out' : List ℕ) → c ≡ d → Gives (cipher_at (number_of d)).gen w skip text out w' out' →
    Gives (cipher_at (number_of c)).gen w skip text out w' out'
gives skip text out w w' out' e h = subst (λ (x : Cipher). Gives (cipher_at (number_of x)).gen w skip text out w' out') (sym e) h

-- the lengths that an open asks, and what it gives
pub asked : {c d : Cipher} (n m : ℕ) → c ≡ d → (n ≡ (cipher_at (number_of c)).key) × (m ≡ (cipher_at (number_of c)).iv) → (n ≡ (cipher_at (number_of d)).key) × (m ≡ (cipher_at (number_of d)).iv)
asked n m e h = subst (λ (x : Cipher). (n ≡ (cipher_at (number_of x)).key) × (m ≡ (cipher_at (number_of x)).iv)) e h

pub given : {c d : Cipher} {w : List ℕ} (key iv : List ℕ) → c ≡ d → w ≡ (cipher_at (number_of d)).init key iv → w ≡ (cipher_at (number_of c)).init key iv
given {w = w} key iv e h = subst (λ (x : Cipher). w ≡ (cipher_at (number_of x)).init key iv) (sym e) h

-- S(0) of a key and an IV is in the range of the cipher's states
pub in_range : {S : Type 0} {i : Interface S} {P : S → Type 0} → Laws i P → {s : S} {key iv : List ℕ} → s ≡ i.init key iv → ((k : ℕ) → Byte (get_or key k 0)) → ((k : ℕ) → Byte (get_or iv k 0)) → P s
in_range {P = P} l {key = key} {iv} e h q = subst P (sym e) (l.init-range key iv (all_known Byte key h) (all_known Byte iv q))
