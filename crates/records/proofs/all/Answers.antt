-- `records::all` meets its contract: what each run of ten bytes says, in order, is what is read from byte to byte.
-- Assumes nothing.
use Rattle.std.proofs.Common.{◌≡◌, ap, ◌∙◌, ◌/◌, length, map}
use Rattle.std.specs.Simd.{first_chunks}
use Rattle.records.specs.Records.{said}
use Rattle.records.proofs.Reading.{said-each}
use Rattle.records.proofs.all.Goals as goal

pub returns : goal.returns
returns c = ap (map said) c.as_chunks.ensures.front ∙ said-each c.args.s.now (length c.args.s.now / 10) 0
