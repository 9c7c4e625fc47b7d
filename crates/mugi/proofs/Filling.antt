-- The turns of ρ1 that fill b: a loop stores a0 of each turn from b15 down, so that after i turns the last i blocks of b are those that the definition has put
-- before one another, and zeros stand before them. So b(15 - i) is a0 of the turn that the clause names.
-- Assumes nothing.
use mathlib.Core.Path.{◌≡◌, refl, ap, ap₂, sym, ◌∙◌}
use mathlib.Core.List.{List, [], ◌∷◌, ◌++◌}
use Prim.Native.Nat.{ℕ, zero, suc, ◌+◌, ◌-◌, ◌<◌}
use native.Mathlib.Omega.{arith}
use lib.ListN.{get_or, set, replicate}
use Rattle.words.specs.Lists.{iter}
use Rattle.words.proofs.Registers.{iter-more}
use Rattle.mugi.specs.declared.Mugi.{Mugi}
use Rattle.mugi.specs.Cipher.{cell, spread, turned, filled, keyed}

-- the state after i turns from a₀
abbrev after : List ℕ → ℕ → Mugi
after a₀ i = iter i filled (record { a = a₀; b = [] })

pub record Turned (a₀ : List ℕ) (i : ℕ) (a b : List ℕ) : Type 0 where
  pub a-is : a ≡ (after a₀ i).a
  pub b-is : b ≡ replicate (16 - i) 0 ++ (after a₀ i).b

-- the last zero becomes x
stored : (n x : ℕ) (l : List ℕ) → set (replicate (suc n) 0 ++ l) n x ≡ replicate n 0 ++ (x ∷ l)
stored zero x l = refl
stored (suc n) x l = ap (λ (r : List ℕ). 0 ∷ r) (stored n x l)

pub none : (a₀ : List ℕ) → Turned a₀ 0 a₀ (replicate 16 0)
unfolding iter
none a₀ = record { a-is = refl; b-is = refl }

module _ {a₀ a a' b : List ℕ} (i : ℕ) (h : i < 16) (s : Turned a₀ i a b) (e : a' ≡ turned a) where
  step : after a₀ (i + 1) ≡ filled (after a₀ i)
  step = iter-more i filled (record { a = a₀; b = [] })

  a-step : a' ≡ (filled (after a₀ i)).a
  unfolding filled
  a-step = e ∙ ap turned s.a-is

  b-step : set b (15 - i) (get_or a' 0 0) ≡ replicate (15 - i) 0 ++ (filled (after a₀ i)).b
  unfolding filled
  b-step =
      let n : 16 - i ≡ suc (15 - i) = omega arith in
      ap₂ (λ (l : List ℕ) (x : ℕ). set l (15 - i) x) (s.b-is ∙ ap (λ (k : ℕ). replicate k 0 ++ (after a₀ i).b) n) (ap (λ (l : List ℕ). cell l 0) a-step)
      ∙ stored (15 - i) (cell (turned (after a₀ i).a) 0) (after a₀ i).b

  pub more : Turned a₀ (i + 1) a' (set b (15 - i) (get_or a' 0 0))
  more =
      let n : 15 - i ≡ 16 - (i + 1) = omega arith in
      record {
        a-is = a-step ∙ ap (λ (t : Mugi). t.a) (sym step);
        b-is = b-step ∙ ap₂ (λ (k : ℕ) (t : Mugi). replicate k 0 ++ t.b) n (sym step);
      }

pub done : {a₀ a b : List ℕ} (i : ℕ) (k : List ℕ) → i ≡ 16 → Turned a₀ i a b → a₀ ≡ spread k → record { a = a; b = b } ≡ keyed k
unfolding keyed
done {a₀} i k n s e =
    (λ j. record { a = s.a-is j; b = s.b-is j })
    ∙ ap (λ (m : ℕ). record { a = (after a₀ m).a; b = replicate (16 - m) 0 ++ (after a₀ m).b }) n
    ∙ ap (λ (l : List ℕ). after l 16) e

-- d + i, a turn at a time
past : ℕ → ℕ → ℕ
past zero i = i
past (suc d) i = suc (past d i)

past_is : (d i : ℕ) → past d i ≡ d + i
unfolding past
past_is zero i = omega arith
past_is (suc d) i = let e = past_is d i in omega arith

a-after : (a₀ : List ℕ) (n : ℕ) → (after a₀ n).a ≡ iter n turned a₀
unfolding iter filled
a-after a₀ zero = refl
a-after a₀ (suc n) = ap turned (a-after a₀ n)

b-after : (a₀ : List ℕ) (d i : ℕ) → cell (after a₀ (past d (suc i))).b d ≡ cell (after a₀ (suc i)).a 0
unfolding iter filled past
b-after a₀ zero i = refl
b-after a₀ (suc d) i = b-after a₀ d i

-- 8.1.2 c) as the clause has it: b(15 - i) is a0 after i + 1 turns
pub block-of-turn : (k : List ℕ) (i : ℕ) → i < 16 → cell (keyed k).b (15 - i) ≡ cell (iter (suc i) turned (spread k)) 0
unfolding keyed
block-of-turn k i h =
    let n : 16 ≡ past (15 - i) (suc i) = omega (arith, past_is (15 - i) (suc i)) in
    ap (λ (m : ℕ). cell (after (spread k) m).b (15 - i)) n
    ∙ b-after (spread k) (15 - i) i
    ∙ ap (λ (l : List ℕ). cell l 0) (a-after (spread k) (suc i))
