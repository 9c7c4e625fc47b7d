-- Rabbit as a generator: units of sixteen bytes.
-- Assumes nothing.
use Rattle.keystream.specs.Stream.{Gen}
use Rattle.rabbit.specs.declared.Rabbit.{Rabbit}
use Rattle.rabbit.specs.Cipher.{next, unit as unit_of}

abbrev pub gen : Gen Rabbit
gen = record { unit = 16; next = next; strm = unit_of }
