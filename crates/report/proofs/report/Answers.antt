-- `report::report` meets its contract: the number of a refusal, or the figures of a total that fits.
-- Assumes nothing.
use Rattle.std.proofs.Common.{rules}
use Rattle.report.proofs.Sheet.{leaves-number, leaves-sheet}
use Rattle.report.proofs.report.Goals as goal

pub returns-in-Ok : goal.returns-in-Ok
returns-in-Ok c =
    let m = leaves-sheet c.args.s.now c.new-text.ensures.len_is c.in-Ok.ensures.code c.in-Ok.ensures.total c.put_figures.ensures.written c.put_figures-in-Ok.ensures.written c.put_figure.ensures in
    search (rules, m)

pub returns-in-Err : goal.returns-in-Err
returns-in-Err c =
    let m = leaves-number c.args.s.now c.new-text.ensures.len_is c.in-Err.refusal c.in-Err.ensures.code c.number.ensures c.put_figure-in-Err.ensures in
    search (rules, m)
