-- Words put one after the other into zeros are a state's, and the state after a crypt is in the range of those before it.
-- Assumes nothing.
use mathlib.Core.Path.{◌≡◌, ap, sym, subst, ◌∙◌}
use mathlib.Core.List.{List, [], ◌∷◌, ◌++◌, append_assoc}
use Prim.Native.Nat.{ℕ, ◌+◌, ◌-◌, ◌≤◌}
use lib.ListN.{length, drop, take, set, replicate, length-append, length-drop}
use lib.Seq.{set_at}
use borrow.Rule.Slice.PartMut.{put_mid}
use native.Mathlib.Omega.{arith}
use Rattle.words.proofs.Ranges.{iter-keeps}
use Rattle.keystream.specs.Stream.{Gen, state_at}
use Rattle.keystream.proofs.Parts.{part-more}

-- the first part, as it was put
first : (a : List ℕ) {n : ℕ} {w₁ : List ℕ} → length a ≡ n → w₁ ≡ a ++ drop (length a) (replicate 38 0) → w₁ ≡ a ++ drop n (replicate 38 0)
first a n p = p ∙ ap (λ (k : ℕ). a ++ drop k (replicate 38 0)) n

-- one more, in the part behind the first n words
more : (a b : List ℕ) (n m k : ℕ) {w₁ w₂ : List ℕ} → length a ≡ n → n + m ≤ 38 → n + k ≡ 38 → w₁ ≡ a ++ drop n (replicate 38 0)
    → w₂ ≡ b ++ drop m (take k (drop n w₁)) → put_mid n k w₁ w₂ ≡ (a ++ b) ++ drop (n + m) (replicate 38 0)
more a b n m k {w₁} {w₂} e h s p q =
    let l : length w₁ ≡ 38 = ap length p ∙ length-append a (drop n (replicate 38 0)) ∙ (let z : length a + length (drop n (replicate 38 0)) ≡ 38 = omega (arith, length-drop {A = ℕ} n (replicate 38 0), e) in z) in
    let d : k ≡ length w₁ - n = omega arith in
    ap (λ (x : ℕ). put_mid n x w₁ w₂) d ∙ part-more a b (replicate 38 0) w₁ w₂ n m e h p (q ∙ ap (λ (x : ℕ). b ++ drop m (take x (drop n w₁))) d)

-- sixteen words and two
pub register-words : (a : List ℕ) (x y : ℕ) {w₁ w₂ : List ℕ} → length a ≡ 16 → w₁ ≡ a ++ drop (length a) (replicate 38 0)
    → w₂ ≡ (x ∷ y ∷ []) ++ drop 2 (take 22 (drop 16 w₁)) → put_mid 16 22 w₁ w₂ ≡ a ++ (x ∷ y ∷ replicate 20 0)
register-words a x y e p q = more a (x ∷ y ∷ []) 16 2 22 e (omega arith) (omega arith) (first a e p) q ∙ append_assoc a (x ∷ y ∷ []) (replicate 20 0)

-- two parts, sixteen words together
two-parts : (a b : List ℕ) (n m k : ℕ) {w₁ w₂ : List ℕ} → length a ≡ n → length b ≡ m → n + m ≡ 16 → n + k ≡ 38 → w₁ ≡ a ++ drop (length a) (replicate 38 0)
    → w₂ ≡ b ++ drop (length b) (take k (drop n w₁)) → put_mid n k w₁ w₂ ≡ (a ++ b) ++ drop 16 (replicate 38 0)
two-parts a b n m k {w₁} e f s t p q =
    more a b n m k e (omega (arith, s)) t (first a e p) (q ∙ ap (λ (x : ℕ). b ++ drop x (take k (drop n w₁))) f) ∙ ap (λ (x : ℕ). (a ++ b) ++ drop x (replicate 38 0)) s

both-length : (a b : List ℕ) {n m : ℕ} → length a ≡ n → length b ≡ m → n + m ≡ 16 → length (a ++ b) ≡ 16
both-length a b e f s = length-append a b ∙ (let z : length a + length b ≡ 16 = omega arith in z)

-- eight words, eight more and one
pub counted-words : (a b : List ℕ) (x : ℕ) {w₁ w₂ : List ℕ} → length a ≡ 8 → length b ≡ 8 → w₁ ≡ a ++ drop (length a) (replicate 38 0)
    → w₂ ≡ b ++ drop (length b) (take 30 (drop 8 w₁)) → set (put_mid 8 30 w₁ w₂) 16 x ≡ a ++ (b ++ (x ∷ replicate 21 0))
counted-words a b x e f p q =
    let s : 8 + 8 ≡ 16 = omega arith in
    ap (λ (w : List ℕ). set w 16 x) (two-parts a b 8 8 30 e f s (omega arith) p q)
    ∙ set_at (a ++ b) 0 (replicate 21 0) x 16 (both-length a b e f s)
    ∙ append_assoc a b (x ∷ replicate 21 0)

-- five words, eleven and four
pub register-and-four : (a b : List ℕ) (x y z u : ℕ) {w₁ w₂ w₃ : List ℕ} → length a ≡ 5 → length b ≡ 11 → w₁ ≡ a ++ drop (length a) (replicate 38 0)
    → w₂ ≡ b ++ drop (length b) (take 33 (drop 5 w₁)) → w₃ ≡ (x ∷ y ∷ z ∷ u ∷ []) ++ drop 4 (take 22 (drop 16 (put_mid 5 33 w₁ w₂)))
    → put_mid 16 22 (put_mid 5 33 w₁ w₂) w₃ ≡ a ++ (b ++ (x ∷ y ∷ z ∷ u ∷ replicate 18 0))
register-and-four a b x y z u e f p q r =
    let s : 5 + 11 ≡ 16 = omega arith in
    more (a ++ b) (x ∷ y ∷ z ∷ u ∷ []) 16 4 22 (both-length a b e f s) (omega arith) (omega arith) (two-parts a b 5 11 33 e f s (omega arith) p q) r
    ∙ append_assoc (a ++ b) (x ∷ y ∷ z ∷ u ∷ []) (replicate 18 0)
    ∙ append_assoc a b (x ∷ y ∷ z ∷ u ∷ replicate 18 0)

-- steps keep a range
pub range-on : {S : Type 0} (g : Gen S) (P : S → Type 0) → ((s : S) → P s → P (g.next s)) → {s s' : S} (i : ℕ) → s' ≡ state_at g s 0 i → P s → P s'
unfolding state_at
range-on g P keeps {s} i e p = subst P (sym e) (iter-keeps P g.next keeps _ s p)
