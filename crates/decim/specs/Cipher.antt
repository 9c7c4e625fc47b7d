-- Decim v2 (document 000, 8.4, in the readings that annex C.5 fits). A state is the struct's record: a is the register (`decim_register`), buffer is T, the buffer
-- and I (`decim_buffer`).
-- Assumes nothing.
use Rattle.std.specs.Prelude.{Bool, false, List, [], ◌∷◌, ℕ, zero, suc, ◌+◌, ◌*◌, ◌/◌, ◌%◌, ◌-◌, ◌^◌, eqb, ltb, length, get_or}
use Rattle.words.specs.Word.{◌⊕◌, bit}
use Rattle.words.specs.Lists.{iter}
use Rattle.words.specs.Tests.{pick}
use Rattle.decim_register.specs.Register.{bit_in, of_bits, init_next_lfsr, clocked, f_of}
use Rattle.decim_buffer.specs.declared.Buffer.{Buffer}
use Rattle.decim_buffer.specs.Buffers.{fed_by, drawn}
use Rattle.decim.specs.declared.Decim.{Decim}

-- 8.4.4 and 8.4.5: four turns of the register, which feed the buffer
unfoldable pub four : Bool → List ℕ → Buffer → Decim
four empty a h = record { a = iter 4 clocked a; buffer = fed_by empty (λ k. f_of (iter k clocked a)) h 4 }

-- 8.4.4, BUFF mode: InitNext
unfoldable pub init_next : Decim → Decim
init_next s = four false s.a s.buffer

-- 8.4.5: Next
unfoldable pub next_bit : Decim → Decim
next_bit s = four (eqb (drawn s.buffer).fill 0) s.a (drawn s.buffer)

-- 8.4.6: Strm
abbrev pub strm_bit : Decim → ℕ
strm_bit s = bit_in s.buffer.b 0

-- bit j of a string of bytes, as annex C.5.1 has K79..K0 and IV63..IV0: bit 0 is the lowest of the last byte
abbrev pub string_bit : List ℕ → ℕ → ℕ
string_bit s j = bit (j % 8) (get_or s (length s - 1 - j / 8) 0)

-- 8.4.3, step a)
unfoldable pub loaded_bit : List ℕ → List ℕ → ℕ → ℕ
loaded_bit k v j =
    pick (ltb j 80) (string_bit k j)
    (pick (ltb j 144) (string_bit k (j - 80) ⊕ string_bit v (j - 80))
    (pick (ltb j 160)
    (string_bit k (j - 80) ⊕ string_bit v (j - 144) ⊕ string_bit v (j - 128) ⊕ string_bit v (j - 112) ⊕ string_bit v (j - 96))
    (string_bit v (j - 160) ⊕ string_bit v (j - 128) ⊕ 1)))

-- steps a) to c)
unfoldable pub loaded : List ℕ → List ℕ → List ℕ
loaded k v = of_bits 6 (loaded_bit k v)

unfoldable pub lfsr_filled : List ℕ → List ℕ → Decim
lfsr_filled k v = record { a = iter 192 init_next_lfsr (loaded k v); buffer = record { t = 0; b = 0; fill = 0 } }

-- steps d) to f), of at most n rounds
unfoldable pub buffer_filled : ℕ → Decim → Decim
buffer_filled zero s = s
buffer_filled (suc n) s = let on = buffer_filled n (init_next s) in pick (ltb s.buffer.fill 32) on s

-- 8.4.3: Init, of a key of 10 bytes and an IV of 8, with document 02's 1,024 rounds for the clause's 64
unfoldable pub init : List ℕ → List ℕ → Decim
init k v = buffer_filled 1024 (lfsr_filled k v)

-- document 02's unit: a byte is eight steps, and annex C.5.1 has Zn..Z0, the first bit lowest
abbrev pub u : ℕ
u = 1

unfoldable pub next : Decim → Decim
next s = iter 8 next_bit s

-- the number of n bits, f 0 lowest
unfoldable pub joined_up : ℕ → (ℕ → ℕ) → ℕ
joined_up zero f = 0
joined_up (suc n) f = joined_up n f + f n * 2 ^ n

unfoldable pub strm : Decim → ℕ
strm s = joined_up 8 (λ k. strm_bit (iter k next_bit s))

unfoldable pub unit : Decim → List ℕ
unit s = strm s ∷ []
