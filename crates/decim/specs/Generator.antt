-- Decim v2 as a generator: units of one byte.
-- Assumes nothing.
use Rattle.keystream.specs.Stream.{Gen}
use Rattle.decim.specs.declared.Decim.{Decim}
use Rattle.decim.specs.Cipher.{next, unit as unit_of}

abbrev pub gen : Gen Decim
gen = record { unit = 1; next = next; strm = unit_of }
