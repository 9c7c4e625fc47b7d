-- `sealing_stream::Walk::first` meets its contract. The loop's invariant: t blocks are read, and all are 0.
-- Assumes nothing.
use mathlib.Core.List.{List}
use Prim.Native.Nat.{ℕ}
use Rattle.sealing_stream.specs.Walk.{At}
use Rattle.sealing_stream.proofs.Walks.{Passed}
use Rattle.sealing_stream.proofs.Walk.first.Given as goal

abbrev pub invariant-loop-t : goal.invariant-loop-t
invariant-loop-t l = (c : ℕ) (s : List ℕ) → At c s 0 l.initial.self → Passed c s l.self l.t
