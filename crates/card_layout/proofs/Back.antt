-- A card is read back from its words where words can hold its lines, as they can hold those of every machine that a list of calls leads to.
-- Assumes nothing.
use mathlib.Core.Path.{◌≡◌, refl, ap, ap₂, sym, ◌∙◌}
use mathlib.Core.List.{List, [], ◌∷◌, ◌++◌, map, append_assoc}
use Prim.Native.Nat.{ℕ, suc, ◌+◌, ◌*◌}
use native.Mathlib.Omega.{arith}
use lib.ListN.{length, length-map, length-append}
use lib.Seq.{drop_at, take_at}
use Rattle.card_sizes.specs.Sizes.{state_words, line_size, line_count, card_size}
use Rattle.machine.specs.Machine.{Line, MLine, Machine, shown, unit_at, seen}
use Rattle.machine.proofs.Lines.{none-waits, one-waits, Good, good-idle, good-loaded, good-open, good-ok, shown-idle, start-shown, state-fit}
use Rattle.machine.proofs.Parks.{Long}
use Rattle.machine.proofs.Simulation.{AllGood, none-good, more-good}
use Rattle.card_line.specs.Words.{line_in, line_words}
use Rattle.card_layout.specs.Words.{lines_in, lines_words, parks_in, parks_words, card_in, card_words}
use Rattle.card_line.proofs.Lines.{Plain, small, line_read, line-length}
use Rattle.card_layout.proofs.Cards.{lines-first, parks-read}

data AllPlain : List Line → Type 0 where
  no_plain : AllPlain []
  more-plain : {l : Line} {ls : List Line} → Plain l → AllPlain ls → AllPlain (l ∷ ls)

lines-read : (ls : List Line) (rest : List ℕ) → AllPlain ls → lines_in (length ls) (lines_words ls ++ rest) ≡ ls
lines-read [] rest no_plain = refl
lines-read (l ∷ ls) rest (more-plain s h) =
    let n = line-length l s.full s.waits-full in
    let more = lines_words ls ++ rest in
    ap (lines_in (suc (length ls))) (append_assoc (line_words l) (lines_words ls) rest)
    ∙ lines-first (length ls) (line_words l ++ more)
    ∙ ap₂ (λ (x y : List ℕ). line_in x ∷ lines_in (length ls) y) (take_at (line_words l) more line_size n) (drop_at (line_words l) more line_size n)
    ∙ ap₂ ◌∷◌ (line_read l s) (lines-read ls rest h)

lines-length : (ls : List Line) → AllPlain ls → length (lines_words ls) ≡ line_size * length ls
lines-length [] no_plain = refl
lines-length (l ∷ ls) (more-plain s h) =
    let a = line-length l s.full s.waits-full in
    let b = lines-length ls h in
    let c = length-append (line_words l) (lines_words ls) in
    omega arith

full-of : (l : MLine) → Good l → length (shown l).words ≡ state_words
unfolding shown
full-of l good-idle = ap (λ (x : Line). length x.words) shown-idle
full-of _ (good-loaded {c} {w} h k) = ap (λ (x : Line). length x.words) (start-shown 2 c w) ∙ k.full
full-of l (good-open m c p b f w) = (state-fit l (unit_at l) f).full

waits-full-of : (l : MLine) → Good l → length (shown l).waiting ≡ state_words
unfolding shown
waits-full-of l good-idle = refl
waits-full-of l (good-loaded h k) = refl
waits-full-of l (good-open m c p b f (none-waits d e)) = ap length e
waits-full-of l (good-open m c p b f (one-waits a u v)) = v.full

good-plain : (l : MLine) → Good l → Plain (shown l)
good-plain l g = let s = small (shown l) (good-ok l g) in record { mode = s.0; cipher = s.1; full = full-of l g; waits-full = waits-full-of l g }

all_plain : {ls : List MLine} → AllGood ls → AllPlain (map shown ls)
all_plain none-good = no_plain
all_plain (more-good {l = l} g h) = more-plain (good-plain l g) (all_plain h)

module _ (m : Machine) (g : AllGood m.lines) (n : length m.lines ≡ line_count) where
  abbrev ls : List Line
  ls = map shown m.lines

  abbrev own : List ℕ
  own = parks_words m.parks

  eight : length ls ≡ line_count
  eight = length-map m.lines shown ∙ n

  lines_end : length (lines_words ls) ≡ line_size * line_count
  lines_end = lines-length ls (all_plain g) ∙ ap (◌*◌ line_size) eight

  pub seen_read : Long m.parks → card_in (card_words (seen m)) ≡ seen m
  unfolding card_in card_words
  seen_read k =
      let e = ap (λ (k : ℕ). lines_in k (lines_words ls ++ own)) (sym eight) ∙ lines-read ls own (all_plain g) in
      let f = ap parks_in (drop_at (lines_words ls) own (line_size * line_count) lines_end) ∙ parks-read m.parks k in
      λ j. record { lines = e j; parks = f j }

  pub seen-length : Long m.parks → length (card_words (seen m)) ≡ card_size
  unfolding card_words
  seen-length k =
      length-append (lines_words ls) own ∙ ap₂ ◌+◌ lines_end (length-append m.parks.counts m.parks.held ∙ ap₂ ◌+◌ k.counts k.held)
