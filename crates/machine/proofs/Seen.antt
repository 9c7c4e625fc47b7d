-- What is seen of a machine that starts from what is seen is that, and a line that is put is seen in its place.
-- Assumes nothing.
use mathlib.Core.Path.{◌≡◌, ap, ◌∙◌}
use mathlib.Core.List.{List, map}
use Prim.Native.Nat.{ℕ}
use lib.ListN.{set}
use Rattle.machine.specs.Machine.{Line, MLine, Seen, shown, based, seen, back, with_line, with_line_seen}
use Rattle.machine.proofs.Simulation.{shown-all, map-set}

pub seen_back : (c : Seen) → seen (back c) ≡ c
seen_back c = ap (λ (x : List Line). record { lines = x; parks = c.parks }) (shown-all c.lines)

pub seen-with : (c : Seen) (i : ℕ) (m : MLine) → seen (with_line (back c) i m) ≡ with_line_seen c i (shown m)
seen-with c i m =
    ap (λ (x : List Line). record { lines = x; parks = c.parks }) (map-set shown (map based c.lines) i m ∙ ap (λ (x : List Line). set x i (shown m)) (shown-all c.lines))
