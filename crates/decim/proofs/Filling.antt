-- The filling of the buffer, round by round.
-- Assumes nothing.
use mathlib.Core.Path.{◌≡◌, refl, ap, sym, ◌∙◌}
use mathlib.Core.Bool.{Bool}
use Prim.Native.Nat.{ℕ, zero, suc, ◌+◌, ◌-◌, ◌<◌, ◌≤◌}
use native.Mathlib.Omega.{arith}
use borrow.Author.Tests.{lt-ltb, le-ltb}
use Rattle.words.specs.Tests.{pick}
use Rattle.decim.specs.declared.Decim.{Decim}
use Rattle.decim.specs.Cipher.{init_next, buffer_filled}

-- a round more, where the buffer is not full
filled_on : (m : ℕ) (s : Decim) → s.buffer.fill < 32 → buffer_filled (suc m) s ≡ buffer_filled m (init_next s)
unfolding buffer_filled
filled_on m s h = ap (λ (t : Bool). pick t (buffer_filled m (init_next s)) s) (lt-ltb s.buffer.fill 32 h)

pub filled-turn : (n : ℕ) (s₀ s : Decim) {s' : Decim} → n < 1024 → buffer_filled 1024 s₀ ≡ buffer_filled (1024 - n) s → s.buffer.fill < 32 → s' ≡ init_next s
    → buffer_filled 1024 s₀ ≡ buffer_filled (1024 - (n + 1)) s'
filled-turn n s₀ s h e f q =
    let k : 1024 - n ≡ suc (1024 - (n + 1)) = omega arith in
    e ∙ ap (λ (m : ℕ). buffer_filled m s) k ∙ filled_on (1024 - (n + 1)) s f ∙ ap (buffer_filled (1024 - (n + 1))) (sym q)

-- no round more, where it is
pub filled-full : (m : ℕ) (s : Decim) → 32 ≤ s.buffer.fill → buffer_filled m s ≡ s
unfolding buffer_filled
filled-full zero s h = refl
filled-full (suc m) s h = ap (λ (t : Bool). pick t (buffer_filled m (init_next s)) s) (le-ltb s.buffer.fill 32 h)

-- and none after the last
pub filled-last : (n : ℕ) (s : Decim) → 1024 ≤ n → buffer_filled (1024 - n) s ≡ s
unfolding buffer_filled
filled-last n s h = let k : 1024 - n ≡ 0 = omega arith in ap (λ (m : ℕ). buffer_filled m s) k
