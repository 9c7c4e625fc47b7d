-- The buffer of Decim v2 (document 000, 8.4.11, and what 8.4.4 and 8.4.5 do with it and ABSG): t is T, whose lowest bit is T2; b is the buffer's 32 bits, b0 on top;
-- fill is I.
-- Assumes nothing.
use Rattle.std.specs.Prelude.{Bool, true, ℕ, zero, suc, ◌+◌, ◌*◌, ◌-◌, eqb, ltb}
use Rattle.words.specs.Word.{◌⊕◌}
use Rattle.words.specs.Tests.{pick, both}
use Rattle.decim_tables.specs.Absg.{t0, t2, absg}
use Rattle.decim_register.specs.Register.{bit_in, joined_down}
use Rattle.decim_buffer.specs.declared.Buffer.{Buffer}

-- 8.4.11: B, with bit i of b set to c; T comes with it
unfoldable pub set_bit : ℕ → ℕ → ℕ → ℕ
set_bit b i c = joined_down 32 (λ j. pick (eqb j i) c (bit_in b j))

unfoldable pub buffered : ℕ → ℕ → ℕ → Bool → ℕ → Buffer
buffered t b i output c =
    pick (both output (ltb i 32)) (record { t = t; b = set_bit b i c; fill = i + 1 }) (record { t = t; b = b; fill = i })

-- 8.4.4, step c), and 8.4.5, step d), of one fk: empty says that ι(0) is 0. c is fk ⊕ τ2, which annex C.5.3 fits; document 002 prints τ0.
unfoldable pub fed : Bool → Buffer → ℕ → Buffer
fed empty h f =
    pick empty (buffered h.t h.b h.fill true f)
    (buffered (absg h.t f) h.b h.fill (eqb (t0 (absg h.t f)) 0) (f ⊕ t2 h.t))

-- τ(k), β(k) and ι(k), where fk is f k
unfoldable pub fed_by : Bool → (ℕ → ℕ) → Buffer → ℕ → Buffer
fed_by empty f h zero = h
fed_by empty f h (suc k) = fed empty (fed_by empty f h k) (f k)

-- 8.4.5, steps b) and c): ι(0), which by document 02 stays 0 where I is 0, and β(0), whose bits from ι(0) on are those of b (step c) prints τ(0) for ι(0))
unfoldable pub drawn_bits : ℕ → ℕ → ℕ
drawn_bits b i = joined_down 32 (λ j. pick (ltb j i) (bit_in b (j + 1)) (bit_in b j))

unfoldable pub drawn : Buffer → Buffer
drawn h = record { t = h.t; b = drawn_bits h.b (h.fill - 1); fill = h.fill - 1 }

-- a buffer after a bit is taken from it and f 0 to f 3 are fed: Next's part in it
unfoldable pub refilled : (ℕ → ℕ) → Buffer → Buffer
refilled f h = fed_by (eqb (drawn h).fill 0) f (drawn h) 4

-- a buffer after k of that, where f0 to f31 are the bits of a word
unfoldable pub refills : ℕ → Buffer → ℕ → Buffer
refills f h zero = h
refills f h (suc k) = refilled (λ m. bit_in f (4 * k + m)) (refills f h k)
