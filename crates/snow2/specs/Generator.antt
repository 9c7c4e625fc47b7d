-- SNOW 2.0 as a generator: units of four bytes.
-- Assumes nothing.
use Rattle.snow2.specs.declared.Snow2.{Snow2}
use Rattle.snow2.specs.Cipher.{next, unit as unit_of}
use Rattle.keystream.specs.Stream.{Gen}

abbrev pub gen : Gen Snow2
gen = record { unit = 4; next = next; strm = unit_of }
