-- `tables_text::put_table` meets its contract: each entry goes behind those before it.
-- Assumes nothing.
use Rattle.tables_text.proofs.Entries.{putting-none, putting-room, putting-more, putting-all}
use Rattle.tables_text.proofs.put_table.Goals as goal

pub loop-i-init : goal.loop-i-init
loop-i-init g c = putting-none c.requires

pub put_entry-requires : goal.put_entry-requires
put_entry-requires g c = putting-room c.loop-i.invariant c.loop-i-test.true

pub loop-i-preserved : goal.loop-i-preserved
loop-i-preserved g c = putting-more c.loop-i.invariant c.loop-i-test.true c.behind.ensures c.put_entry.ensures

pub returns : goal.returns
returns g c = putting-all c.loop-i.invariant c.loop-i-test.false c.loop-i.auto.i-end
