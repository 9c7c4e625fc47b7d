-- ABSG of Decim v2 (document 000, 8.4.10), and over four fk at once: T after them and the bits that come out of them, at most two, in one byte. T's lowest bit is T2.
-- Assumes nothing.
use Rattle.std.specs.Prelude.{List, [], ◌∷◌, ◌++◌, ℕ, zero, suc, ◌+◌, ◌*◌, ◌/◌, ◌%◌, ◌-◌, ◌^◌, eqb}
use Rattle.std.specs.Int.Bits.{bit_and, bit_or}
use Rattle.words.specs.Word.{◌⊕◌}
use Rattle.words.specs.Tests.{pick}

-- T0, T1 and T2
abbrev pub t0 : ℕ → ℕ
t0 t = t / 4 % 2

abbrev pub t1 : ℕ → ℕ
t1 t = t / 2 % 2

abbrev pub t2 : ℕ → ℕ
t2 t = t % 2

-- 8.4.10: ABSG, with a) T'1, b) T'2 and c) T'0
abbrev pub absg1 : (T0 T1 c : ℕ) → ℕ
absg1 T0 T1 c = pick (eqb T0 1) T1 c

abbrev pub absg2 : (T0 T1 c : ℕ) → ℕ
absg2 T0 T1 c = bit_and T0 (T1 ⊕ c)

abbrev pub absg0 : (T0 T1 c : ℕ) → ℕ
absg0 T0 T1 c = bit_or (T0 ⊕ 1) (absg2 T0 T1 c)

unfoldable pub absg_on : (T0 T1 c : ℕ) → ℕ
absg_on T0 T1 c = absg0 T0 T1 c * 4 + absg1 T0 T1 c * 2 + absg2 T0 T1 c

unfoldable pub absg : ℕ → ℕ → ℕ
absg t c = absg_on (t0 t) (t1 t) c

-- τ(k), and what has come out by then: of fk, c is fk ⊕ τ2, which annex C.5.3 fits; document 002 prints τ0
unfoldable pub tau_to : ℕ → (ℕ → ℕ) → ℕ → ℕ
tau_to t f zero = t
tau_to t f (suc k) = absg (tau_to t f k) (f k)

unfoldable pub out_to : ℕ → (ℕ → ℕ) → ℕ → List ℕ
out_to t f zero = []
out_to t f (suc k) = pick (eqb (t0 (tau_to t f (suc k))) 0) (out_to t f k ++ ((f k ⊕ t2 (tau_to t f k)) ∷ [])) (out_to t f k)

-- T in the three lowest bits, how many came out in the next two, then they themselves
unfoldable pub packed : ℕ → List ℕ → ℕ
packed t [] = t
packed t (c ∷ []) = t + 8 + 32 * c
packed t (c ∷ d ∷ l) = t + 16 + 32 * c + 64 * d

-- bit m of four, counted from the top
abbrev pub nibble : ℕ → ℕ → ℕ
nibble g m = g / 2 ^ (3 - m) % 2

unfoldable pub entry_of : ℕ → ℕ → ℕ
entry_of t g = packed (tau_to t (nibble g) 4) (out_to t (nibble g) 4)
