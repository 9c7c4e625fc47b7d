-- What the register feeds in 32 turns depends on itself, five, sixteen and seventeen turns back. That is undone by squaring: shifts add up, and what is taken twice
-- falls away, so 1 + s5 + s16 + s17, squared back times over, is the identity on words.
-- Assumes nothing.
use mathlib.Core.Path.{◌≡◌, refl, ap, ap₂, sym, ◌∙◌}
use Prim.Native.Nat.{ℕ, ◌+◌, ◌/◌, ◌^◌, ◌≤◌}
use native.Mathlib.Nat.{add_comm, div-eq_of_lt, lt_of_lt_of_le}
use lib.Bits.{bit_xor, xor_comm, xor_self, xor_zero_r, xor_shr}
use lib.Pow.{shr-shr, pow_mono}
use lib.Dec.{lit≤}
use Rattle.words.specs.Word.{◌⊕◌}
use Rattle.words.specs.Lists.{Word}
use Rattle.decim_register.specs.Wide.{back, solution}
use Rattle.words.proofs.Xor.{xor_assoc, xor-swap}

-- what is taken twice falls away
twice-none : (x m y : ℕ) → (x ⊕ m) ⊕ (m ⊕ y) ≡ x ⊕ y
twice-none x m y =
    xor_assoc x m (m ⊕ y) ∙ ap (bit_xor x) (sym (xor_assoc m m y) ∙ ap (λ (n : ℕ). n ⊕ y) (xor_self m))

-- f + g, squared, where f and g are additive and commute
module _ (f g : ℕ → ℕ) (f-adds : (a b : ℕ) → f (a ⊕ b) ≡ f a ⊕ f b) (g-adds : (a b : ℕ) → g (a ⊕ b) ≡ g a ⊕ g b)
    (commute : (a : ℕ) → f (g a) ≡ g (f a)) where
  squared : (v : ℕ) → f (f v ⊕ g v) ⊕ g (f v ⊕ g v) ≡ f (f v) ⊕ g (g v)
  squared v =
      ap₂ bit_xor (f-adds (f v) (g v)) (g-adds (f v) (g v) ∙ ap (λ (x : ℕ). x ⊕ g (g v)) (sym (commute v)))
      ∙ twice-none (f (f v)) (f (g v)) (g (g v))

-- ---- shifts

abbrev shift : ℕ → ℕ → ℕ
shift k v = v / 2 ^ k

shift-adds : (k a b : ℕ) → shift k (a ⊕ b) ≡ shift k a ⊕ shift k b
shift-adds k a b = xor_shr a b k

shift-shift : (i j v : ℕ) → shift i (shift j v) ≡ shift (j + i) v
shift-shift i j v = shr-shr v j i

shifts-commute : (i j v : ℕ) → shift i (shift j v) ≡ shift j (shift i v)
shifts-commute i j v = shift-shift i j v ∙ ap (λ (k : ℕ). shift k v) (add_comm j i) ∙ sym (shift-shift j i v)

shifted-out : (k : ℕ) {v : ℕ} → Word v → 32 ≤ k → shift k v ≡ 0
shifted-out k h q = div-eq_of_lt (lt_of_lt_of_le h (pow_mono q))

-- 1 + sk, squared
twice : (k v : ℕ) → (v ⊕ shift k v) ⊕ shift k (v ⊕ shift k v) ≡ v ⊕ shift (k + k) v
twice k v = squared (λ x. x) (shift k) (λ a b. refl) (shift-adds k) (λ a. refl) v ∙ ap (bit_xor v) (shift-shift k k v)

-- s16 + s17, and s5 with it
two : ℕ → ℕ
two v = shift 16 v ⊕ shift 17 v

two-adds : (a b : ℕ) → two (a ⊕ b) ≡ two a ⊕ two b
unfolding two
two-adds a b = ap₂ bit_xor (shift-adds 16 a b) (shift-adds 17 a b) ∙ xor-swap (shift 16 a) (shift 16 b) (shift 17 a) (shift 17 b)

two-shift : (k v : ℕ) → shift k (two v) ≡ two (shift k v)
unfolding two
two-shift k v = shift-adds k (shift 16 v) (shift 17 v) ∙ ap₂ bit_xor (shifts-commute k 16 v) (shifts-commute k 17 v)

back-adds : (a b : ℕ) → back (a ⊕ b) ≡ back a ⊕ back b
unfolding two
back-adds a b = ap₂ bit_xor (shift-adds 5 a b) (two-adds a b) ∙ xor-swap (shift 5 a) (shift 5 b) (two a) (two b)

two-two : {v : ℕ} → Word v → two (two v) ≡ 0
unfolding two
two-two {v} h =
    squared (shift 16) (shift 17) (shift-adds 16) (shift-adds 17) (shifts-commute 16 17) v
    ∙ ap₂ bit_xor (shift-shift 16 16 v ∙ shifted-out 32 h (lit≤ tt)) (shift-shift 17 17 v ∙ shifted-out 34 h (lit≤ tt))

back-back : {v : ℕ} → Word v → back (back v) ≡ shift 10 v
unfolding two
back-back {v} h =
    squared (shift 5) two (shift-adds 5) two-adds (two-shift 5) v ∙ ap₂ bit_xor (shift-shift 5 5 v) (two-two h) ∙ xor_zero_r (shift 10 v)

-- so the solution is one
pub solved : (r : ℕ) → Word r → solution (r ⊕ back r) ≡ r
unfolding solution
solved r h =
    ap (λ (y : ℕ). let z = y ⊕ shift 10 y in z ⊕ shift 20 z) (squared (λ v. v) back (λ a b. refl) back-adds (λ a. refl) r ∙ ap (bit_xor r) (back-back h))
    ∙ ap (λ (z : ℕ). z ⊕ shift 20 z) (twice 10 r)
    ∙ twice 20 r
    ∙ ap (bit_xor r) (shifted-out 40 h (lit≤ tt))
    ∙ xor_zero_r r

-- ---- regrouped: the parts of r that are r's own, on one side

pub regrouped : (g u v w a b c p q s r : ℕ) → r ≡ g ⊕ u ⊕ v ⊕ w ⊕ (a ⊕ p) ⊕ (b ⊕ q) ⊕ (c ⊕ s) → g ⊕ (u ⊕ v ⊕ w ⊕ a ⊕ b ⊕ c) ≡ r ⊕ (s ⊕ (q ⊕ p))
regrouped g u v w a b c p q s r e =
    let k = g ⊕ u ⊕ v ⊕ w in
    let known : g ⊕ (u ⊕ v ⊕ w ⊕ a ⊕ b ⊕ c) ≡ k ⊕ a ⊕ b ⊕ c =
    sym (xor_assoc g (u ⊕ v ⊕ w ⊕ a ⊕ b) c)
    ∙ ap (λ (x : ℕ). x ⊕ c) (sym (xor_assoc g (u ⊕ v ⊕ w ⊕ a) b)
    ∙ ap (λ (x : ℕ). x ⊕ b) (sym (xor_assoc g (u ⊕ v ⊕ w) a)
    ∙ ap (λ (x : ℕ). x ⊕ a) (sym (xor_assoc g (u ⊕ v) w) ∙ ap (λ (x : ℕ). x ⊕ w) (sym (xor_assoc g u v))))) in
    let own : r ≡ (k ⊕ a ⊕ b ⊕ c) ⊕ (p ⊕ q ⊕ s) =
    e
    ∙ ap (λ (x : ℕ). x ⊕ (b ⊕ q) ⊕ (c ⊕ s)) (sym (xor_assoc k a p))
    ∙ ap (λ (x : ℕ). x ⊕ (c ⊕ s)) (xor-swap (k ⊕ a) p b q)
    ∙ xor-swap (k ⊕ a ⊕ b) (p ⊕ q) c s in
    let same : s ⊕ (q ⊕ p) ≡ p ⊕ q ⊕ s = xor_comm s (q ⊕ p) ∙ ap (λ (x : ℕ). x ⊕ s) (xor_comm q p) in
    known
    ∙ sym (ap₂ bit_xor own same
    ∙ xor_assoc (k ⊕ a ⊕ b ⊕ c) (p ⊕ q ⊕ s) (p ⊕ q ⊕ s)
    ∙ ap (bit_xor (k ⊕ a ⊕ b ⊕ c)) (xor_self (p ⊕ q ⊕ s))
    ∙ xor_zero_r (k ⊕ a ⊕ b ⊕ c))
