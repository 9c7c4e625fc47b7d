-- `records::bytes_of` meets its contract: the eight bytes behind line and cipher, as two words, the higher first.
-- Assumes nothing.
use Rattle.std.proofs.Common.{◌≡◌, ◌∙◌, arith}
use Rattle.words.specs.Strings.{word_at}
use Rattle.records.specs.Records.{use_at}
use Rattle.records.proofs.bytes_of.Goals as goal

pub returns : goal.returns
unfolding use_at word_at
returns c = c.from_be_bytes.ensures ∙ (omega arith)
