-- What every state of Decim v2 that Init and Next make is: a register and a buffer in their ranges.
-- Assumes nothing.
use Rattle.decim_register.specs.Range.{RegisterIn}
use Rattle.decim_buffer.specs.Range.{BufferIn}
use Rattle.decim.specs.declared.Decim.{Decim}

pub record InRange (s : Decim) : Type 0 where
  pub register : RegisterIn s.a
  pub block : BufferIn s.buffer
