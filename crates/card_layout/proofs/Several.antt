-- A line that is put leaves the others as they were, and a card that is as a call leaves it: so a command may put several lines, one after the other.
-- Assumes nothing.
use mathlib.Core.Path.{◌≡◌, refl, ap, sym, ◌∙◌}
use mathlib.Core.Bool.{true}
use mathlib.Core.List.{List, ◌++◌}
use Prim.Native.Nat.{ℕ, zero, suc, ◌+◌, ◌*◌, ◌<◌, ◌≤◌}
use native.Mathlib.Decide.{dec_lt}
use native.Mathlib.Omega.{arith}
use lib.ListN.{length, get_or, take, drop, set, length-append, length-drop}
use lib.Seq.{length-take-le, drop_at, take_at, get_or-set_same, get_or-set_other}
use Rattle.words.proofs.Tests.{both_left, both_right, both_true}
use Rattle.card_sizes.specs.Sizes.{line_size, line_count}
use Rattle.machine.specs.Machine.{Line, idle_line, line_ok, all_ok, card_ok}
use Rattle.machine.specs.Parks.{parks_ok}
use Rattle.card_line.specs.Words.{line_in, line_words}
use Rattle.card_layout.specs.Words.{words_at, card_in, put_line, Sound}
use Rattle.card_line.proofs.Lines.{Plain, line_read, line-length}
use Rattle.card_layout.proofs.Cards.{further, put_next, put-seen, card-lines}

-- ---- the words of the lines after one was put

other-words : (i j : ℕ) (ws : List ℕ) (l : Line) → (i ≡ j → ⊥) → length (line_words l) ≡ line_size → line_size * i + line_size ≤ length ws → words_at (put_line ws i l) j ≡ words_at ws j
unfolding put_line
other-words zero zero ws l f n h = absurd (f refl)
other-words zero (suc j) ws l f n h =
    ap (take line_size)
    (sym (further j (line_words l ++ drop line_size ws)) ∙ ap (drop (line_size * j)) (drop_at (line_words l) (drop line_size ws) line_size n) ∙ further j ws)
other-words (suc i) zero ws l f n h =
    ap (take line_size) (put_next i ws l) ∙ take_at (take line_size ws) (put_line (drop line_size ws) i l) line_size (length-take-le line_size ws (omega arith))
other-words (suc i) (suc j) ws l f n h =
    let r = put_line (drop line_size ws) i l in
    ap (λ (x : List ℕ). words_at x (suc j)) (put_next i ws l)
    ∙ ap (take line_size)
    (sym (further j (take line_size ws ++ r)) ∙ ap (drop (line_size * j)) (drop_at (take line_size ws) r line_size (length-take-le line_size ws (omega arith))))
    ∙ other-words i j (drop line_size ws) l (λ e. f (ap suc e)) n (omega (arith, length-drop line_size ws))
    ∙ ap (take line_size) (further j ws)

own-words : (i : ℕ) (ws : List ℕ) (l : Line) → length (line_words l) ≡ line_size → line_size * i + line_size ≤ length ws → words_at (put_line ws i l) i ≡ line_words l
unfolding put_line
own-words i ws l n h =
    let rest : List ℕ = drop (line_size * i + line_size) ws in
    ap (take line_size) (drop_at (take (line_size * i) ws) (line_words l ++ rest) (line_size * i) (length-take-le (line_size * i) ws (omega arith)))
    ∙ take_at (line_words l) rest line_size n

put-length : (i : ℕ) (ws : List ℕ) (l : Line) → length (line_words l) ≡ line_size → line_size * i + line_size ≤ length ws → length (put_line ws i l) ≡ length ws
unfolding put_line
put-length i ws l n h =
    let rest : List ℕ = drop (line_size * i + line_size) ws in
    let a = length-append (take (line_size * i) ws) (line_words l ++ rest) in
    let b = length-append (line_words l) rest in
    let c = length-take-le (line_size * i) ws (omega arith) in
    let d = length-drop (line_size * i + line_size) ws in
    omega arith

-- ---- the card after one was put

all_set : (n : ℕ) (ls : List Line) (i : ℕ) (l : Line) → i < length ls → line_ok l ≡ true → all_ok n ls ≡ true → all_ok n (set ls i l) ≡ true
all_set zero ls i l h k e = refl
all_set (suc n) ls i l h k e =
    both_true (all_set n ls i l h k (both_left (all_ok n ls) (line_ok (get_or ls n idle_line)) e)) (by (dec_lt i n) (dec_lt n i))
  where
    other : (i ≡ n → ⊥) → line_ok (get_or (set ls i l) n idle_line) ≡ true
    other f = ap line_ok (get_or-set_other ls i n l idle_line (λ z. f (sym z))) ∙ both_right (all_ok n ls) (line_ok (get_or ls n idle_line)) e

    by : Dec (i < n) → Dec (n < i) → line_ok (get_or (set ls i l) n idle_line) ≡ true
    by (yes p) q = other (λ z. omega arith)
    by (no p) (yes q) = other (λ z. omega arith)
    by (no p) (no q) =
        let z : n ≡ i = omega arith in
        ap (λ (x : ℕ). line_ok (get_or (set ls i l) x idle_line)) z ∙ ap line_ok (get_or-set_same ls i l idle_line h) ∙ k

module _ (ws : List ℕ) (s : Sound ws) (i : ℕ) (q : i < line_count) (l : Line) (p : Plain l) where
  within : line_size * i + line_size ≤ length ws
  within = omega (arith, s.size)

  full : length (line_words l) ≡ line_size
  full = line-length l p.full p.waits-full

  -- A line that is well formed, put into a card that is as a call leaves it, leaves such a card.
  pub put-sound : line_ok l ≡ true → Sound (put_line ws i l)
  put-sound k =
      record {
        size = put-length i ws l full within ∙ s.size;
        ok = ap card_ok (put-seen ws i l q s.size p) ∙ both_true (all_set line_count (card_in ws).lines i l (omega (arith, card-lines ws)) k (both_left _ (parks_ok (card_in ws).parks) s.ok))
            (both_right (all_ok line_count (card_in ws).lines) (parks_ok (card_in ws).parks) s.ok);
        held = λ j h. by j h (dec_lt i j) (dec_lt j i);
      }
    where
      other : (j : ℕ) → j < line_count → (i ≡ j → ⊥) → line_words (line_in (words_at (put_line ws i l) j)) ≡ words_at (put_line ws i l) j
      other j h f =
          let e = other-words i j ws l f full within in
          ap (λ (x : List ℕ). line_words (line_in x)) e ∙ s.held j h ∙ sym e

      by : (j : ℕ) → j < line_count → Dec (i < j) → Dec (j < i) → line_words (line_in (words_at (put_line ws i l) j)) ≡ words_at (put_line ws i l) j
      by j h (yes x) y = other j h (λ z. omega arith)
      by j h (no x) (yes y) = other j h (λ z. omega arith)
      by j h (no x) (no y) =
          let z : j ≡ i = omega arith in
          let e : words_at (put_line ws i l) j ≡ line_words l = ap (words_at (put_line ws i l)) z ∙ own-words i ws l full within in
          ap (λ (x : List ℕ). line_words (line_in x)) e ∙ ap line_words (line_read l p) ∙ sym e
