-- A walk over the lines of a card: the test of the first n is false where one of them fails, and goes on where the next passes.
-- Assumes nothing.
use mathlib.Core.Path.{◌≡◌, ap, sym, ◌∙◌}
use mathlib.Core.Bool.{Bool, true, false}
use mathlib.Core.List.{List}
use Prim.Native.Nat.{ℕ, zero, suc, ◌+◌, ◌<◌}
use native.Mathlib.Numerals.{add-one}
use native.Mathlib.Decide.{dec_lt}
use native.Mathlib.Omega.{arith}
use lib.ListN.{get_or}
use Rattle.words.specs.Tests.{both}
use Rattle.words.proofs.Tests.{both_true, both_false}
use Rattle.machine.specs.Machine.{Line, all_ok, line_ok, idle_line}

line-fails : (n : ℕ) (ls : List Line) (i : ℕ) → i < n → line_ok (get_or ls i idle_line) ≡ false → all_ok n ls ≡ false
line-fails zero ls i h e = absurd (omega arith)
line-fails (suc n) ls i h e = go (dec_lt i n) (λ q. line-fails n ls i q e)
  where
    go : Dec (i < n) → (i < n → all_ok n ls ≡ false) → both (all_ok n ls) (line_ok (get_or ls n idle_line)) ≡ false
    go (yes q) r = ap (λ (x : Bool). both x (line_ok (get_or ls n idle_line))) (r q)
    go (no q) r =
        let z : n ≡ i = omega arith in
        both_false (all_ok n ls) (line_ok (get_or ls n idle_line)) (ap (λ (k : ℕ). line_ok (get_or ls k idle_line)) z ∙ e)

pub lines-fail : (n : ℕ) (ls : List Line) (i : ℕ) → i < n → line_ok (get_or ls i idle_line) ≡ false → false ≡ all_ok n ls
lines-fail n ls i h e = sym (line-fails n ls i h e)

pub lines-pass : (ls : List Line) (i : ℕ) → all_ok i ls ≡ true → line_ok (get_or ls i idle_line) ≡ true → all_ok (i + 1) ls ≡ true
lines-pass ls i p e = rw add-one (both_true p e)

pub no-more : {A : Type 0} → false ≡ true → A
no-more e = absurd (let z : ◌≡◌ {A = ℕ} 0 1 = cc in omega arith)
