-- What a buffer of Decim v2 is: three bits of T, a word, and a fill of at most its 32 bits.
-- Assumes nothing.
use Rattle.std.specs.Prelude.{◌≤◌}
use Rattle.words.specs.Lists.{Word}
use Rattle.decim_buffer.specs.declared.Buffer.{Buffer}

pub record BufferIn (h : Buffer) : Type 0 where
  pub t-most : h.t ≤ 7
  pub b-word : Word h.b
  pub fill-most : h.fill ≤ 32
