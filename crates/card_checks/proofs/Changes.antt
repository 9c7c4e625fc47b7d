-- What 255 asks of a change that waits, by the words that are kept for it: all zero where nothing waits; else the position is above the line's, and the words are a state.
-- Assumes nothing.
use mathlib.Core.Path.{◌≡◌, refl, ap, ap₂, sym, ◌∙◌}
use mathlib.Core.Bool.{Bool, true, false}
use mathlib.Core.List.{List, ◌∷◌}
use Prim.Native.Nat.{ℕ, ◌+◌, ◌*◌, ◌^◌, ◌<◌, ◌≤◌}
use native.Mathlib.Omega.{arith}
use lib.Dec.{ltb, eqb}
use lib.ListN.{length, get_or, take, drop}
use borrow.Author.Tests.{lt-ltb, le-ltb, eq-eqb, ne_eqb, eqb-true}
use Rattle.words.specs.Lists.{tab}
use Rattle.words.specs.Tests.{both, pick}
use Rattle.words.proofs.Registers.{listed}
use Rattle.words.proofs.Tests.{both_left, both_right, both_true}
use Rattle.card_sizes.specs.Sizes.{state_words, due_at, waiting_at, line_size}
use Rattle.ciphers.specs.Table.{all_zero}
use Rattle.machine.specs.Machine.{state_ok, change_ok}
use Rattle.card_line.specs.Words.{line_in}

module _ (c n due : ℕ) (w : List ℕ) where
  by-due : {b : Bool} → eqb due 0 ≡ b → change_ok c n due w ≡ pick b (all_zero w) (both (ltb n due) (state_ok c due w))
  unfolding change_ok
  by-due e = ap (λ (b : Bool). pick b (all_zero w) (both (ltb n due) (state_ok c due w))) e

  -- a change above the line's position
  pub above : n < due → state_ok c due w ≡ change_ok c n due w
  above h = sym (by-due (ne_eqb due 0 (λ e. omega (arith, h, e))) ∙ ap (λ (b : Bool). both b (state_ok c due w)) (lt-ltb n due h))

  not-above : (due ≡ 0 → all_zero w ≡ false) → due ≤ n → false ≡ change_ok c n due w
  not-above f h = by (eqb due 0) refl
    where
      by : (b : Bool) → eqb due 0 ≡ b → false ≡ change_ok c n due w
      by true e = sym (by-due e ∙ f (eqb-true due 0 e))
      by false e = sym (by-due e ∙ ap (λ (b : Bool). both b (state_ok c due w)) (le-ltb n due h))

-- the words that are kept for a change
abbrev kept : (a b : ℕ) → List ℕ → List ℕ
kept a b w = a ∷ b ∷ w

kept-zero : (a b : ℕ) (w : List ℕ) → all_zero (kept a b w) ≡ true → (a * 2 ^ 32 + b ≡ 0) × (all_zero w ≡ true)
kept-zero a b w h =
    let r = both_right (eqb a 0) (both (eqb b 0) (all_zero w)) h in
    let x = eqb-true a 0 (both_left (eqb a 0) (both (eqb b 0) (all_zero w)) h) in
    let y = eqb-true b 0 (both_left (eqb b 0) (all_zero w) r) in
    (omega (arith, x, y), both_right (eqb b 0) (all_zero w) r)

kept_low : (a b : ℕ) (w : List ℕ) → all_zero (kept a b w) ≡ true → b < 2 ^ 32
kept_low a b w h =
    let y = eqb-true b 0 (both_left (eqb b 0) (all_zero w) (both_right (eqb a 0) (both (eqb b 0) (all_zero w)) h)) in
    omega (arith, y)

kept-none : (a b : ℕ) (w : List ℕ) → all_zero (kept a b w) ≡ false → a * 2 ^ 32 + b ≡ 0 → all_zero w ≡ false
kept-none a b w h e =
    let x : a ≡ 0 = omega (arith, e) in
    let y : b ≡ 0 = omega (arith, e) in
    sym (ap₂ (λ (p q : Bool). both p (both q (all_zero w))) (eq-eqb a 0 x) (eq-eqb b 0 y)) ∙ h

module _ (ws : List ℕ) (size : length ws ≡ line_size) where
  kept-is : take 40 (drop due_at ws) ≡ kept (get_or ws due_at 0) (get_or ws (due_at + 1) 0) (line_in ws).waiting
  unfolding line_in
  kept-is =
      let e = listed line_size ws size in
      ap (λ (x : List ℕ). take 40 (drop due_at x)) e
      ∙ sym (ap (λ (x : List ℕ). kept (get_or x due_at 0) (get_or x (due_at + 1) 0) (tab state_words (λ k. get_or x (waiting_at + k) 0))) e)

  pub none-waits : (c n : ℕ) → all_zero (take 40 (drop due_at ws)) ≡ true → true ≡ change_ok c n (line_in ws).due (line_in ws).waiting
  unfolding line_in
  none-waits c n h =
      let z = kept-zero (get_or ws due_at 0) (get_or ws (due_at + 1) 0) (line_in ws).waiting (sym (ap all_zero kept-is) ∙ h) in
      sym (by-due c n (line_in ws).due (line_in ws).waiting (eq-eqb _ 0 z.0) ∙ z.1)

  -- nothing waits exactly where all of them are zero
  pub quiet_is : (b : Bool) → all_zero (take 40 (drop due_at ws)) ≡ b → both (eqb (line_in ws).due 0) (all_zero (line_in ws).waiting) ≡ b
  unfolding line_in
  quiet_is true h =
      let z = kept-zero (get_or ws due_at 0) (get_or ws (due_at + 1) 0) (line_in ws).waiting (sym (ap all_zero kept-is) ∙ h) in
      both_true (eq-eqb _ 0 z.0) z.1
  quiet_is false h = by (eqb (line_in ws).due 0) refl
    where
      by : (b : Bool) → eqb (line_in ws).due 0 ≡ b → both b (all_zero (line_in ws).waiting) ≡ false
      by true e = kept-none (get_or ws due_at 0) (get_or ws (due_at + 1) 0) (line_in ws).waiting (sym (ap all_zero kept-is) ∙ h) (eqb-true _ 0 e)
      by false e = refl

  -- the lower half of its position is a word then
  pub none-low : all_zero (take 40 (drop due_at ws)) ≡ true → get_or ws (due_at + 1) 0 < 2 ^ 32
  none-low h = kept_low (get_or ws due_at 0) (get_or ws (due_at + 1) 0) (line_in ws).waiting (sym (ap all_zero kept-is) ∙ h)

  pub low-waits : (c n : ℕ) → all_zero (take 40 (drop due_at ws)) ≡ false → (line_in ws).due ≤ n → false ≡ change_ok c n (line_in ws).due (line_in ws).waiting
  unfolding line_in
  low-waits c n h q = not-above c n (line_in ws).due (line_in ws).waiting (kept-none (get_or ws due_at 0) (get_or ws (due_at + 1) 0) (line_in ws).waiting (sym (ap all_zero kept-is) ∙ h)) q
