-- MUGI's words, two to a block: a line's words, block by block, are the state that they hold, and a state's blocks are its words.
-- Assumes nothing.
use mathlib.Core.Path.{◌≡◌, refl, ap, ap₂, sym, ◌∙◌}
use mathlib.Core.List.{List, [], ◌∷◌, ◌++◌}
use Prim.Native.Nat.{ℕ, zero, suc, ◌+◌, ◌*◌, ◌<◌}
use native.Mathlib.Omega.{arith}
use lib.ListN.{length, get_or, drop, set}
use Rattle.words.specs.Lists.{tab}
use Rattle.words.proofs.Registers.{listed, fill}
use Rattle.mugi.specs.Cipher.{left, right}
use Rattle.mugi.specs.declared.Mugi.{Mugi}
use Rattle.ciphers.specs.States.{halves, block_in, mugi_words, mugi_state}

pub state-is : (w : List ℕ) → ◌≡◌ {A = Mugi} (record { a = tab 3 (block_in w); b = tab 16 (λ i. block_in w (3 + i)) }) (mugi_state w)
unfolding mugi_state
state-is w = refl

pub words-is : (s : Mugi) → length s.a ≡ 3 → length s.b ≡ 16
    → halves (tab 3 (λ i. get_or s.a i 0) ++ tab 16 (λ i. get_or s.b i 0)) ≡ mugi_words s
unfolding mugi_words
words-is s e f = ap₂ (λ (l m : List ℕ). halves (l ++ m)) (sym (listed 3 s.a e)) (sym (listed 16 s.b f))

left_at : (l : List ℕ) (i : ℕ) → get_or (halves l) (2 * i) 0 ≡ left (get_or l i 0)
left_at [] i = refl
left_at (x ∷ l) zero = refl
left_at (x ∷ l) (suc i) =
    let e : 2 * suc i ≡ suc (suc (2 * i)) = omega arith in
    ap (λ (n : ℕ). get_or (halves (x ∷ l)) n 0) e ∙ left_at l i

right-at : (l : List ℕ) (i : ℕ) → get_or (halves l) (2 * i + 1) 0 ≡ right (get_or l i 0)
right-at [] i = refl
right-at (x ∷ l) zero = refl
right-at (x ∷ l) (suc i) =
    let e : 2 * suc i + 1 ≡ suc (suc (2 * i + 1)) = omega arith in
    ap (λ (n : ℕ). get_or (halves (x ∷ l)) n 0) e ∙ right-at l i

-- the first i blocks as words, and one more
pub halves-more : (l z : List ℕ) (i : ℕ) → 2 * i + 1 < length z
    → set (set (tab (2 * i) (λ k. get_or (halves l) k 0) ++ drop (2 * i) z) (2 * i) (left (get_or l i 0))) (2 * i + 1) (right (get_or l i 0))
    ≡ tab (2 * (i + 1)) (λ k. get_or (halves l) k 0) ++ drop (2 * (i + 1)) z
halves-more l z i h =
    let f : ℕ → ℕ = λ k. get_or (halves l) k 0 in
    let e : 2 * i + 1 + 1 ≡ 2 * (i + 1) = omega arith in
    ap (λ (x : ℕ). set (set (tab (2 * i) f ++ drop (2 * i) z) (2 * i) x) (2 * i + 1) (right (get_or l i 0))) (sym (left_at l i))
    ∙ ap (λ (x : List ℕ). set x (2 * i + 1) (right (get_or l i 0))) (fill (2 * i) f z (omega arith))
    ∙ ap (λ (x : ℕ). set (tab (2 * i + 1) f ++ drop (2 * i + 1) z) (2 * i + 1) x) (sym (right-at l i))
    ∙ fill (2 * i + 1) f z h
    ∙ ap (λ (n : ℕ). tab n f ++ drop n z) e
