-- Exclusive or: it is associative, a sum of four can be regrouped, and that of two words goes byte by byte. The first is by induction on the binary
-- digits, since halves and lowest digits pass through it.
-- Assumes nothing.
use mathlib.Core.Path.{◌≡◌, refl, ap, ap₂, sym, ◌∙◌}
use Prim.Native.Nat.{ℕ, zero, suc, ◌+◌, ◌*◌, ◌/◌, ◌%◌, ◌<◌, ◌^◌}
use native.Mathlib.Nat.{div-add-mod', mod-lt}
use native.Mathlib.Omega.{arith}
use lib.Arith.{bin_ind}
use lib.Bits.{bit_xor, xor_comm, xor_shr, xor_mod, xor_block, xor_lt}
use lib.Dec.{lit<}
use Rattle.words.specs.Word.{◌⊕◌, word}
use Rattle.words.specs.Lists.{Byte}

halves : (a b : ℕ) → a ⊕ b ≡ ((a / 2) ⊕ (b / 2)) * 2 + ((a % 2) ⊕ (b % 2))
halves a b = sym (div-add-mod' (a ⊕ b) 2) ∙ ap₂ (λ (x y : ℕ). x * 2 + y) (xor_shr a b 1) (xor_mod a b 1)

digits : (x y z : ℕ) → x < 2 → y < 2 → z < 2 → (x ⊕ y) ⊕ z ≡ x ⊕ (y ⊕ z)
digits zero y z hx hy hz = refl
digits (suc zero) zero z hx hy hz = refl
digits (suc zero) (suc zero) zero hx hy hz = refl
digits (suc zero) (suc zero) (suc zero) hx hy hz = refl
digits (suc zero) (suc zero) (suc (suc z)) hx hy hz = omega arith
digits (suc zero) (suc (suc y)) z hx hy hz = omega arith
digits (suc (suc x)) y z hx hy hz = omega arith

pub xor_assoc : (a b c : ℕ) → (a ⊕ b) ⊕ c ≡ a ⊕ (b ⊕ c)
xor_assoc =
    bin_ind (λ (n : ℕ). (b c : ℕ) → (n ⊕ b) ⊕ c ≡ n ⊕ (b ⊕ c)) (λ b c. refl)
    (λ n ih b c.
    halves (n ⊕ b) c
    ∙ ap₂ (λ (x y : ℕ). (x ⊕ (c / 2)) * 2 + (y ⊕ (c % 2))) (xor_shr n b 1) (xor_mod n b 1)
    ∙ ap₂ (λ (x y : ℕ). x * 2 + y) (ih (b / 2) (c / 2)) (digits (n % 2) (b % 2) (c % 2) (mod-lt n (lit< tt)) (mod-lt b (lit< tt)) (mod-lt c (lit< tt)))
    ∙ ap₂ (λ (x y : ℕ). ((n / 2) ⊕ x) * 2 + ((n % 2) ⊕ y)) (sym (xor_shr b c 1)) (sym (xor_mod b c 1))
    ∙ sym (halves n (b ⊕ c)))

pub xor-swap : (a b c d : ℕ) → (a ⊕ b) ⊕ (c ⊕ d) ≡ (a ⊕ c) ⊕ (b ⊕ d)
xor-swap a b c d =
    xor_assoc a b (c ⊕ d)
    ∙ ap (bit_xor a) (sym (xor_assoc b c d) ∙ ap (λ (x : ℕ). x ⊕ d) (xor_comm b c) ∙ xor_assoc c b d)
    ∙ sym (xor_assoc a c (b ⊕ d))

pub byte-xor : {a b : ℕ} → Byte a → Byte b → Byte (a ⊕ b)
byte-xor {a} {b} ha hb = xor_lt 8 a b ha hb

-- the highest byte may be any number
pub word-xor : (a e : ℕ) {b c d f g h : ℕ} → Byte b → Byte c → Byte d → Byte f → Byte g → Byte h
    → (word a b c d) ⊕ (word e f g h) ≡ word (a ⊕ e) (b ⊕ f) (c ⊕ g) (d ⊕ h)
word-xor a e {b} {c} {d} {f} {g} {h} hb hc hd hf hg hh =
    xor_block 8 ((a * 2 ^ 8 + b) * 2 ^ 8 + c) ((e * 2 ^ 8 + f) * 2 ^ 8 + g) d h hd hh
    ∙ ap (λ (x : ℕ). x * 2 ^ 8 + (d ⊕ h))
    (xor_block 8 (a * 2 ^ 8 + b) (e * 2 ^ 8 + f) c g hc hg ∙ ap (λ (x : ℕ). x * 2 ^ 8 + (c ⊕ g)) (xor_block 8 a e b f hb hf))
