-- `decim_tables::absg` meets its contract: the table's entries are computed by ABSG.
-- Assumes nothing.
use mathlib.Core.Path.{refl}
use Rattle.decim_tables.specs.Absg.{absg_on, absg, tau_to, out_to, packed, entry_of}
use Rattle.decim_tables.specs.Tables.{absg_list}
use Rattle.decim_tables.proofs.absg.Goals as goal

pub returns : goal.returns
unfolding absg_list entry_of packed tau_to out_to absg absg_on
returns c = refl
