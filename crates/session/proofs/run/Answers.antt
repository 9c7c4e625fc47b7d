-- `session::run` meets its contract: the column names, the lines of all calls, and the last line; beside them the bytes and the records.
-- Assumes nothing.
use Rattle.words.specs.Lists.{Byte}
use Rattle.words.proofs.Ranges.{all_known}
use Rattle.session.proofs.Sofar.{sizes-of, leaves}
use borrow.Author.Rules.{rules}
use Rattle.session.proofs.run.Goals as goal

pub run_calls-p-requires : goal.run_calls-p-requires
run_calls-p-requires c =
    sizes-of c.args.commands.now c.args.«data».now c.first-c.ensures c.first-d.ensures (search rules) (search rules) (search rules) c.begin.ensures

pub returns : goal.returns
returns c =
    record {
      left =
          leaves c.args.commands.now c.args.tray.now c.args.«data».now c.args.out.now c.args.table.now c.args.records.now _ _ _ c.first-c.ensures
          c.first-t.ensures c.first-d.ensures c.run_calls-p.result c.begin.ensures c.run_calls-p.ensures c.accepted_of-accepted.ensures c.finish-printed.ensures;
      command-bytes = all_known Byte c.args.commands.now (λ i. (c.type_inv.commands i).fits);
      tray-bytes = all_known Byte c.args.tray.now (λ i. (c.type_inv.tray i).fits);
    }
