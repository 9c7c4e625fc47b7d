-- KCipher-2 as a generator: units of eight bytes.
-- Assumes nothing.
use Rattle.keystream.specs.Stream.{Gen}
use Rattle.kcipher2.specs.declared.Kcipher2.{Kcipher2}
use Rattle.kcipher2.specs.Cipher.{next, unit as unit_of}

abbrev pub gen : Gen Kcipher2
gen = record { unit = 8; next = next; strm = unit_of }
