-- `seal_calls::unseal` meets its contract: what `open` answers for the arrays, with the bytes written stored.
-- Assumes nothing.
use Rattle.seal_calls.proofs.Told.{told_none, told, of-arrays-open}
use Rattle.seal_calls.proofs.unseal.Goals as goal

pub returns-in_default : goal.returns-in_default
returns-in_default c = told_none _ _ _ c.in_default.ensures

pub returns : goal.returns
returns c =
    let h = c.in-Some.ensures in
    told _ _ _ h.0 c.stored.ensures.code c.stored.ensures.count (of-arrays-open c.args.cipher c.args.sealed.now c.args.out.now h.1 h.2 h.3 c.open.ensures)
