-- A card's words, line by line: a line that is set stands in its words, and the words of the others are as they were.
-- Assumes nothing.
use mathlib.Core.Path.{◌≡◌, refl, ap, ap₂, sym, subst, ◌∙◌}
use mathlib.Core.List.{List, [], ◌∷◌, ◌++◌, append_assoc}
use Prim.Native.Nat.{ℕ, zero, suc, ◌+◌, ◌-◌, ◌*◌, ◌<◌, ◌≤◌}
use native.Mathlib.Nat.{not-suc-le-zero}
use native.Mathlib.Decide.{dec_lt}
use native.Mathlib.Omega.{arith}
use borrow.Rule.Slice.PartMut.{put_mid, Post-is}
use lib.ListN.{length, get_or, take, drop, set, replicate, take-append-drop, length-drop, length-append}
use lib.Seq.{length-take-le, drop-drop, drop_at, take_at, take-add}
use Rattle.card_sizes.specs.Sizes.{line_size, line_count, card_size}
use Rattle.machine.specs.Machine.{Line, idle_line, with_line_seen, with_parks_seen, fresh_card}
use Rattle.machine.specs.Parks.{Parks}
use Rattle.machine.specs.Calls.{line_on}
use Rattle.machine.proofs.Parks.{Long}
use Rattle.card_line.specs.Words.{line_in, line_words, LineHeld}
use Rattle.card_layout.specs.Words.{words_at, lines_in, lines_words, parks_in, parks_words, card_in, card_words, put_line, put_parks, Held, Sound}
use Rattle.card_line.proofs.Lines.{Plain, line_read, line-length}

-- ---- the lines of a card

pub further : (j : ℕ) (ws : List ℕ) → drop (line_size * j) (drop line_size ws) ≡ drop (line_size * suc j) ws
further j ws =
    let e : line_size + line_size * j ≡ line_size * suc j = omega arith in
    drop-drop (line_size * j) line_size ws ∙ ap (λ (k : ℕ). drop k ws) e

pub lines-first : (k : ℕ) (ws : List ℕ) → lines_in (suc k) ws ≡ line_in (take line_size ws) ∷ lines_in k (drop line_size ws)
lines-first zero ws = refl
lines-first (suc k) ws = ap₂ (λ (x : List Line) (y : List ℕ). x ++ (line_in (take line_size y) ∷ [])) (lines-first k ws) (sym (further k ws))

line_at : (k i : ℕ) (ws : List ℕ) (d : Line) → i < k → get_or (lines_in k ws) i d ≡ line_in (words_at ws i)
line_at zero i ws d h = absurd (not-suc-le-zero h)
line_at (suc k) zero ws d h = ap (λ (x : List Line). get_or x 0 d) (lines-first k ws)
line_at (suc k) (suc i) ws d h =
    ap (λ (x : List Line). get_or x (suc i) d) (lines-first k ws) ∙ line_at k i (drop line_size ws) d (omega arith)
    ∙ ap (λ (x : List ℕ). line_in (take line_size x)) (further i ws)

lines-count : (k : ℕ) (ws : List ℕ) → length (lines_in k ws) ≡ k
lines-count zero ws = refl
lines-count (suc k) ws = ap length (lines-first k ws) ∙ ap suc (lines-count k (drop line_size ws))

-- line i, read from its words
pub line-here : (ws : List ℕ) (i : ℕ) → i < line_count → line_on (card_in ws) i ≡ line_in (words_at ws i)
unfolding card_in
line-here ws i h = line_at line_count i ws idle_line h

pub card-lines : (ws : List ℕ) → length (card_in ws).lines ≡ line_count
unfolding card_in
card-lines ws = lines-count line_count ws

-- ---- the part that is a line's

module _ (ws : List ℕ) (i : ℕ) (h : i < line_count) (n : length ws ≡ card_size) where
  part-size : line_size * i + line_size - line_size * i ≡ line_size
  part-size = omega arith

  pub part-is : take (line_size * i + line_size - line_size * i) (drop (line_size * i) ws) ≡ words_at ws i
  part-is = ap (λ (k : ℕ). take k (drop (line_size * i) ws)) part-size

  pub words-length : length (words_at ws i) ≡ line_size
  words-length = length-take-le line_size (drop (line_size * i) ws) (omega (arith, length-drop (line_size * i) ws))

  pub part_length : length (take (line_size * i + line_size - line_size * i) (drop (line_size * i) ws)) ≡ line_size
  part_length = ap length part-is ∙ words-length

  pub line-part : line_in (take (line_size * i + line_size - line_size * i) (drop (line_size * i) ws)) ≡ line_on (card_in ws) i
  line-part = ap line_in part-is ∙ sym (line-here ws i h)

  -- a line that was written into the part
  pub part-put : (ys : List ℕ) (l : Line) → ys ≡ line_words l → put_mid (line_size * i) (line_size * i + line_size - line_size * i) ws ys ≡ put_line ws i l
  unfolding put_line
  part-put ys l e =
      ap₂ (λ (x y : List ℕ). take (line_size * i) ws ++ (x ++ y)) e (Post-is (line_size * i) (line_size * i + line_size) ws (omega arith))

  -- the part of a card that is as a call leaves it holds a line
  pub part_held : Held line_count ws → LineHeld (take (line_size * i + line_size - line_size * i) (drop (line_size * i) ws))
  part_held k = subst LineHeld (sym part-is) (record { size = words-length; words = k i h })

-- the words of a line of a card that is as a call leaves it hold the line
pub held-of : (ws : List ℕ) (i : ℕ) → Sound ws → i < line_count → {ys : List ℕ} → ys ≡ words_at ws i → length ys ≡ line_size → LineHeld ys
held-of ws i s h e n = record { size = n; words = ap (λ (x : List ℕ). line_words (line_in x)) e ∙ s.held i h ∙ sym e }

-- ---- a line that is set

held-rest : (k : ℕ) (ws : List ℕ) → Held (suc k) ws → Held k (drop line_size ws)
held-rest k ws h j q =
    ap (λ (x : List ℕ). line_words (line_in (take line_size x))) (further j ws) ∙ h (suc j) (omega arith) ∙ ap (take line_size) (sym (further j ws))

-- all lines, and what is behind them
words_same : (k : ℕ) (ws : List ℕ) → Held k ws → lines_words (lines_in k ws) ++ drop (line_size * k) ws ≡ ws
words_same zero ws h = refl
words_same (suc k) ws h =
    ap₂ (λ (x : List Line) (y : List ℕ). lines_words x ++ y) (lines-first k ws) (sym (further k ws))
    ∙ ap (λ (x : List ℕ). (x ++ lines_words (lines_in k (drop line_size ws))) ++ drop (line_size * k) (drop line_size ws)) (h 0 (omega arith))
    ∙ append_assoc (take line_size ws) (lines_words (lines_in k (drop line_size ws))) (drop (line_size * k) (drop line_size ws))
    ∙ ap (λ (x : List ℕ). take line_size ws ++ x) (words_same k (drop line_size ws) (held-rest k ws h))
    ∙ take-append-drop line_size ws

pub put_next : (i : ℕ) (ws : List ℕ) (l : Line) → put_line ws (suc i) l ≡ take line_size ws ++ put_line (drop line_size ws) i l
unfolding put_line
put_next i ws l =
    let a : line_size * suc i ≡ line_size + line_size * i = omega arith in
    let b : line_size * suc i + line_size ≡ line_size + (line_size * i + line_size) = omega arith in
    ap₂ (λ (x y : ℕ). take x ws ++ (line_words l ++ drop y ws)) a b
    ∙ ap₂ (λ (x y : List ℕ). x ++ (line_words l ++ y)) (take-add line_size (line_size * i) ws) (sym (drop-drop (line_size * i + line_size) line_size ws))
    ∙ append_assoc (take line_size ws) (take (line_size * i) (drop line_size ws)) (line_words l ++ drop (line_size * i + line_size) (drop line_size ws))

-- one of them set, and what is behind them
words-set : (k i : ℕ) (ws : List ℕ) (l : Line) → i < k → Held k ws → lines_words (set (lines_in k ws) i l) ++ drop (line_size * k) ws ≡ put_line ws i l
unfolding put_line
words-set zero i ws l q h = absurd (not-suc-le-zero q)
words-set (suc k) zero ws l q h =
    ap₂ (λ (x : List Line) (y : List ℕ). lines_words (set x 0 l) ++ y) (lines-first k ws) (sym (further k ws))
    ∙ append_assoc (line_words l) (lines_words (lines_in k (drop line_size ws))) (drop (line_size * k) (drop line_size ws))
    ∙ ap (λ (x : List ℕ). line_words l ++ x) (words_same k (drop line_size ws) (held-rest k ws h))
words-set (suc k) (suc i) ws l q h =
    ap₂ (λ (x : List Line) (y : List ℕ). lines_words (set x (suc i) l) ++ y) (lines-first k ws) (sym (further k ws))
    ∙ ap (λ (x : List ℕ). (x ++ lines_words (set (lines_in k (drop line_size ws)) i l)) ++ drop (line_size * k) (drop line_size ws)) (h 0 (omega arith))
    ∙ append_assoc (take line_size ws) (lines_words (set (lines_in k (drop line_size ws)) i l)) (drop (line_size * k) (drop line_size ws))
    ∙ ap (λ (x : List ℕ). take line_size ws ++ x) (words-set k i (drop line_size ws) l (omega arith) (held-rest k ws h))
    ∙ sym (put_next i ws l)

-- the lines that are read where one was put
lines-set : (k i : ℕ) (ws : List ℕ) (l : Line) → i < k → line_size * k ≤ length ws → Plain l → lines_in k (put_line ws i l) ≡ set (lines_in k ws) i l
unfolding put_line
lines-set zero i ws l q n p = absurd (not-suc-le-zero q)
lines-set (suc k) zero ws l q n p =
    let m = line-length l p.full p.waits-full in
    lines-first k (line_words l ++ drop line_size ws)
    ∙ ap₂ (λ (x y : List ℕ). line_in x ∷ lines_in k y) (take_at (line_words l) (drop line_size ws) line_size m) (drop_at (line_words l) (drop line_size ws) line_size m)
    ∙ ap (λ (x : Line). x ∷ lines_in k (drop line_size ws)) (line_read l p)
    ∙ ap (λ (x : List Line). set x 0 l) (sym (lines-first k ws))
lines-set (suc k) (suc i) ws l q n p =
    let m = length-take-le line_size ws (omega arith) in
    let r = put_line (drop line_size ws) i l in
    ap (lines_in (suc k)) (put_next i ws l)
    ∙ lines-first k (take line_size ws ++ r)
    ∙ ap₂ (λ (x y : List ℕ). line_in x ∷ lines_in k y) (take_at (take line_size ws) r line_size m) (drop_at (take line_size ws) r line_size m)
    ∙ ap (λ (x : List Line). line_in (take line_size ws) ∷ x) (lines-set k i (drop line_size ws) l (omega arith) (omega (arith, length-drop line_size ws)) p)
    ∙ ap (λ (x : List Line). set x (suc i) l) (sym (lines-first k ws))

-- what is behind the lines is as it was where a line was put
rest-same : (k i : ℕ) (ws : List ℕ) (l : Line) → i < k → line_size * k ≤ length ws → length (line_words l) ≡ line_size → drop (line_size * k) (put_line ws i l) ≡ drop (line_size * k) ws
unfolding put_line
rest-same zero i ws l q n m = absurd (not-suc-le-zero q)
rest-same (suc k) zero ws l q n m =
    sym (further k (line_words l ++ drop line_size ws)) ∙ ap (drop (line_size * k)) (drop_at (line_words l) (drop line_size ws) line_size m) ∙ further k ws
rest-same (suc k) (suc i) ws l q n m =
    let r = put_line (drop line_size ws) i l in
    ap (drop (line_size * suc k)) (put_next i ws l)
    ∙ sym (further k (take line_size ws ++ r))
    ∙ ap (drop (line_size * k)) (drop_at (take line_size ws) r line_size (length-take-le line_size ws (omega arith)))
    ∙ rest-same k i (drop line_size ws) l (omega arith) (omega (arith, length-drop line_size ws)) m
    ∙ further k ws

-- the parks are the words behind the lines, and nothing else is
behind : (ws : List ℕ) → length ws ≡ card_size → parks_words (parks_in (drop (line_size * line_count) ws)) ≡ drop (line_size * line_count) ws
behind ws n = take-append-drop line_count (drop (line_size * line_count) ws)

-- The card of words in which a line was put, and the words of a card in which it is set.
pub put-seen : (ws : List ℕ) (i : ℕ) (l : Line) → i < line_count → length ws ≡ card_size → Plain l → card_in (put_line ws i l) ≡ with_line_seen (card_in ws) i l
unfolding card_in
put-seen ws i l q n p =
    let e = rest-same line_count i ws l q (omega arith) (line-length l p.full p.waits-full) in
    let f = lines-set line_count i ws l q (omega arith) p in
    λ j. record { lines = f j; parks = parks_in (e j) }

pub put-words : (ws : List ℕ) (i : ℕ) (l : Line) → i < line_count → Sound ws → card_words (with_line_seen (card_in ws) i l) ≡ put_line ws i l
unfolding card_in card_words
put-words ws i l q s =
    ap (λ (x : List ℕ). lines_words (set (lines_in line_count ws) i l) ++ x) (behind ws s.size) ∙ words-set line_count i ws l q s.held

-- ---- the parks are set

lines-front : (k : ℕ) (ws : List ℕ) → line_size * k ≤ length ws → lines_in k (take (line_size * k) ws) ≡ lines_in k ws
lines-front zero ws n = refl
lines-front (suc k) ws n =
    let a : line_size * suc k ≡ line_size + line_size * k = omega arith in
    let m = length-take-le line_size ws (omega arith) in
    let r = take (line_size * k) (drop line_size ws) in
    ap (λ (n : ℕ). lines_in (suc k) (take n ws)) a
    ∙ ap (lines_in (suc k)) (take-add line_size (line_size * k) ws)
    ∙ lines-first k (take line_size ws ++ r)
    ∙ ap₂ (λ (x y : List ℕ). line_in x ∷ lines_in k y) (take_at (take line_size ws) r line_size m) (drop_at (take line_size ws) r line_size m)
    ∙ ap (λ (x : List Line). line_in (take line_size ws) ∷ x) (lines-front k (drop line_size ws) (omega (arith, length-drop line_size ws)))
    ∙ sym (lines-first k ws)

-- parks are read back from their words, and a card's words have as many as it has lines
pub parks-read : (p : Parks) → Long p → parks_in (parks_words p) ≡ p
parks-read p k =
    let c = take_at p.counts p.held line_count k.counts in
    let h = drop_at p.counts p.held line_count k.counts in
    λ j. record { counts = c j; held = h j }

pub card-long : (ws : List ℕ) → length ws ≡ card_size → Long (card_in ws).parks
unfolding card_in
card-long ws n =
    let r = drop (line_size * line_count) ws in
    let b = length-drop (line_size * line_count) ws in
    record { counts = length-take-le line_count r (omega (arith, b, n)); held = length-drop line_count r ∙ omega (arith, b, n) }

-- The card of words in which parks were put, and the words of a card in which they are set.
pub parks-seen : (ws : List ℕ) (p : Parks) → length ws ≡ card_size → Long p → card_in (put_parks ws p) ≡ with_parks_seen (card_in ws) p
unfolding card_in put_parks
parks-seen ws p n k =
    let front = take (line_size * line_count) ws in
    let m = length-take-le (line_size * line_count) ws (omega arith) in
    let long : line_size * line_count ≤ length (front ++ parks_words p) = omega (arith, length-append front (parks_words p), m) in
    let e : lines_in line_count (front ++ parks_words p) ≡ lines_in line_count ws =
    sym (lines-front line_count (front ++ parks_words p) long) ∙ ap (lines_in line_count) (take_at front (parks_words p) (line_size * line_count) m) ∙ lines-front line_count ws (omega arith) in
    let f = ap parks_in (drop_at front (parks_words p) (line_size * line_count) m) ∙ parks-read p k in
    λ j. record { lines = e j; parks = f j }

pub parks-words : (ws : List ℕ) (p : Parks) → Sound ws → card_words (with_parks_seen (card_in ws) p) ≡ put_parks ws p
unfolding card_in card_words put_parks
parks-words ws p s =
    let l = lines_words (lines_in line_count ws) in
    let r = drop (line_size * line_count) ws in
    let e : l ++ r ≡ ws = words_same line_count ws s.held in
    let n : length l ≡ line_size * line_count = omega (arith, length-append l r, ap length e, length-drop (line_size * line_count) ws, s.size) in
    ap (λ (x : List ℕ). x ++ parks_words p) (sym (take_at l r (line_size * line_count) n) ∙ ap (take (line_size * line_count)) e)

-- A fresh card is all zeros.
pub fresh-words : card_in (replicate card_size 0) ≡ fresh_card
unfolding card_in line_in
fresh-words = refl

-- ---- one line more is held

pub held_more : (i : ℕ) (ws : List ℕ) → Held i ws → line_words (line_in (words_at ws i)) ≡ words_at ws i → Held (i + 1) ws
held_more i ws h e j q = by (dec_lt j i)
  where
    by : Dec (j < i) → line_words (line_in (words_at ws j)) ≡ words_at ws j
    by (yes p) = h j p
    by (no p) =
        let z : j ≡ i = omega arith in
        subst (λ (k : ℕ). line_words (line_in (words_at ws k)) ≡ words_at ws k) (sym z) e
