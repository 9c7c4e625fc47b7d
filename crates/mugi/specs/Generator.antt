-- MUGI as a generator: units of eight bytes.
-- Assumes nothing.
use Rattle.mugi.specs.declared.Mugi.{Mugi}
use Rattle.mugi.specs.Cipher.{next, unit as unit_of}
use Rattle.keystream.specs.Stream.{Gen}

abbrev pub gen : Gen Mugi
gen = record { unit = 8; next = next; strm = unit_of }
