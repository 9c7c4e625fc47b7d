-- `ciphers::row` meets its contract: each arm is a row of the table of ciphers.
-- Assumes nothing.
use mathlib.Core.Path.{ap, sym, ◌∙◌}
use Rattle.ciphers.specs.Table.{cipher_at, zuc, rabbit, snow128, snow256, kcipher2, mugi}
use Rattle.ciphers.specs.Columns.{columns_of}
use borrow.Author.Rules.{rules}
use Rattle.ciphers.proofs.row.Goals as goal

pub returns-in-Zuc : goal.returns-in-Zuc
unfolding cipher_at zuc rabbit snow128 snow256 kcipher2 mugi
returns-in-Zuc c = c.entries.ensures ∙ ap columns_of (sym c.in-Zuc.is)

pub returns-in-Rabbit : goal.returns-in-Rabbit
unfolding cipher_at zuc rabbit snow128 snow256 kcipher2 mugi
returns-in-Rabbit c = c.entries-in-Rabbit.ensures ∙ ap columns_of (sym c.in-Rabbit.is)

pub returns-in-Snow128 : goal.returns-in-Snow128
unfolding cipher_at zuc rabbit snow128 snow256 kcipher2 mugi
returns-in-Snow128 c = c.entries-in-Snow128.ensures ∙ ap columns_of (sym c.in-Snow128.is)

pub returns-in-Snow256 : goal.returns-in-Snow256
unfolding cipher_at zuc rabbit snow128 snow256 kcipher2 mugi
returns-in-Snow256 c = c.entries-in-Snow256.ensures ∙ ap columns_of (sym c.in-Snow256.is)

pub returns-in-Kcipher2 : goal.returns-in-Kcipher2
unfolding cipher_at zuc rabbit snow128 snow256 kcipher2 mugi
returns-in-Kcipher2 c = c.entries-in-Kcipher2.ensures ∙ ap columns_of (sym c.in-Kcipher2.is)

pub returns-in-Mugi : goal.returns-in-Mugi
unfolding cipher_at zuc rabbit snow128 snow256 kcipher2 mugi
returns-in-Mugi c = c.entries-in-Mugi.ensures ∙ ap columns_of (sym c.in-Mugi.is)
