-- What an entry of the table does to a buffer.
-- Assumes nothing.
use Rattle.std.specs.Prelude.{ℕ, ◌/◌, ◌%◌, ltb}
use Rattle.decim_buffer.specs.declared.Buffer.{Buffer}
use Rattle.decim_buffer.specs.Buffers.{buffered}

-- at most two bits are put
unfoldable pub puts : (t n c d : ℕ) → Buffer → Buffer
puts t n c d h =
    let one = buffered t h.b h.fill (ltb 0 n) c in
    buffered t one.b one.fill (ltb 1 n) d

unfoldable pub unpacked : Buffer → ℕ → Buffer
unpacked h e = puts (e % 8) (e / 8 % 4) (e / 32 % 2) (e / 64 % 2) h
