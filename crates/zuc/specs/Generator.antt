-- ZUC as a generator: units of four bytes.
-- Assumes nothing.
use Rattle.zuc.specs.declared.Zuc.{Zuc}
use Rattle.zuc.specs.Cipher.{next, unit as unit_of}
use Rattle.keystream.specs.Stream.{Gen}

abbrev pub gen : Gen Zuc
gen = record { unit = 4; next = next; strm = unit_of }
