-- What a run leaves stands at the start of its buffers.
-- Assumes nothing.
use mathlib.Core.Path.{◌≡◌, ap, sym, ◌∙◌}
use mathlib.Core.List.{List, ◌++◌}
use Prim.Native.Nat.{ℕ, ◌≤◌}
use native.Mathlib.Nat.{min-le_right}
use native.Mathlib.Omega.{arith}
use lib.ListN.{length, take, drop, length-take}
use lib.Seq.{take_at}
use Rattle.machine.specs.Calls.{Made}
use Rattle.session.specs.declared.Ended.{Ended}
use Rattle.session.specs.Session.{written_by, records_by, table_of}
use Rattle.session.specs.Progress.{RunLeaves}

-- what stands at the start of a buffer has as many bytes as it says
front : (l p rest : List ℕ) (n : ℕ) → n ≡ length p → l ≡ p ++ rest → n ≡ length (take n l)
front l p rest n e h = e ∙ ap length (sym (ap (take n) h ∙ take_at p rest n (sym e)))

-- as many bytes as there are
within : (l : List ℕ) (n : ℕ) → n ≡ length (take n l) → n ≤ length l
within l n e = omega (arith, length-take n l, min-le_right n (length l))

module _ {xs : List Made} {out table records out' table' records' : List ℕ} {r : Ended} (h : RunLeaves xs out table records out' table' records' r) where
  pub out-front : r.written ≡ length (take r.written out')
  out-front = front out' (written_by xs) (drop r.written out) r.written h.written h.out-is

  pub out_within : r.written ≤ length out'
  out_within = within out' r.written out-front

  pub table-front : r.printed ≡ length (take r.printed table')
  table-front = front table' (table_of xs) (drop r.printed table) r.printed h.printed h.table_is

  pub table-within : r.printed ≤ length table'
  table-within = within table' r.printed table-front

  pub records-front : r.recorded ≡ length (take r.recorded records')
  records-front = front records' (records_by xs) (drop r.recorded records) r.recorded h.recorded h.records_is

  pub records-within : r.recorded ≤ length records'
  records-within = within records' r.recorded records-front
