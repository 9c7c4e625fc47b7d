-- Every row of the table holds: both columns compute to the same numbers.
-- Assumes nothing.
use mathlib.Core.Path.{◌≡◌, refl}
use mathlib.Core.List.{map}
use Rattle.words.specs.Strings.{word_at, four_at}
use Rattle.field.specs.Gf8.{squares}
use Rattle.field.specs.Gf32.{times, times_y}
use Rattle.field.specs.Aes.{sub, mix, fn_t}
use Rattle.zuc_tables.specs.Tables.{sub1, sub2, d}
use Rattle.zuc.specs.Cipher.{loaded, weighed, mended, fed, l1, l2}
use Rattle.rabbit.specs.Cipher.{g}
use Rattle.snow2.specs.Cipher.{cells, nots, loaded128}
use Rattle.cases.specs.Table.{Row, table}

pub cases : map (λ (r : Row). r.computed) table ≡ map (λ (r : Row). r.stated) table
unfolding table sub1 sub2 d loaded weighed mended fed l1 l2 g times times_y sub squares mix fn_t cells nots loaded128 word_at four_at
cases = refl
