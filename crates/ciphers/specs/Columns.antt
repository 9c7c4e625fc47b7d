-- What the code reads of a cipher's row: its number, and the bytes of its key, of its IV and of its unit.
-- Assumes nothing.
use Rattle.std.specs.Prelude.{ℕ}
use Rattle.command.specs.declared.Cipher.{Cipher}
use Rattle.command.specs.Decode.{number_of}
use Rattle.ciphers.specs.declared.Columns.{Columns}
use Rattle.ciphers.specs.Table.{cipher_at}

abbrev pub columns_by : (number key iv unit : ℕ) → Columns
columns_by number key iv unit = record { number = number; key = key; iv = iv; unit = unit }

abbrev pub columns_of : Cipher → Columns
columns_of c = let r = cipher_at (number_of c) in columns_by (number_of c) r.key r.iv r.gen.unit
