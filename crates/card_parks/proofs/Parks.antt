-- Where the counts and the held numbers stand in the words of a card, and the words where a park is stored or a number is taken up.
-- Assumes nothing.
use mathlib.Core.Path.{◌≡◌, refl, ap, ap₂, sym, ◌∙◌}
use mathlib.Core.Bool.{Bool, true, false}
use mathlib.Core.List.{List, [], ◌∷◌, ◌++◌}
use Prim.Native.Nat.{ℕ, zero, suc, ◌+◌, ◌-◌, ◌<◌}
use native.Mathlib.Omega.{arith}
use lib.Dec.{eqb}
use lib.ListN.{length, get_or, take, drop, set, take-append-drop}
use lib.Seq.{drop-drop, get_or-take, get_or-drop, take-set-le, take-set-lt, drop-set-lt, drop-set-add}
use borrow.Author.Tests.{eqb-true}
use Rattle.words.proofs.Tests.{both_left, both_right}
use Rattle.keystream.proofs.Parts.{tail-part}
use Rattle.ciphers.specs.Table.{all_of, all_zero, is_zero}
use Rattle.card_sizes.specs.Sizes.{line_count, parks_at, held_at, card_size}
use Rattle.machine.specs.Parks.{Parks, count_for, held_for, number_now, parked, taken, parks_ok}
use Rattle.machine.proofs.Parks.{above-all}
use Rattle.card_layout.specs.Words.{card_in, put_parks}

-- words whose lines are as they were, and whose parks are these
parks-are : (ws ws' : List ℕ) (p : Parks) → take parks_at ws' ≡ take parks_at ws → take line_count (drop parks_at ws') ≡ p.counts → drop line_count (drop parks_at ws') ≡ p.held → ws' ≡ put_parks ws p
unfolding put_parks
parks-are ws ws' p f c h =
    sym (take-append-drop parks_at ws') ∙ ap₂ ◌++◌ f (sym (take-append-drop line_count (drop parks_at ws')) ∙ ap₂ ◌++◌ c h)

-- a number set behind the counts
held-set : (ws : List ℕ) (i k : ℕ) → drop parks_at (set ws (held_at + i) k) ≡ set (drop parks_at ws) (line_count + i) k
held-set ws i k = ap (λ (j : ℕ). drop parks_at (set ws j k)) (let e : held_at + i ≡ parks_at + (line_count + i) = omega arith in e) ∙ drop-set-add parks_at ws (line_count + i) k

module _ (ws : List ℕ) where
  abbrev own : List ℕ
  own = drop parks_at ws

  pub held-is : (i : ℕ) → get_or ws (held_at + i) 0 ≡ held_for (card_in ws).parks i
  unfolding card_in
  held-is i =
      ap (λ (j : ℕ). get_or ws j 0) (let e : held_at + i ≡ parks_at + (line_count + i) = omega arith in e)
      ∙ sym (get_or-drop line_count own i 0 ∙ get_or-drop parks_at ws (line_count + i) 0)

  pub count-is : (i : ℕ) → i < line_count → get_or ws (parks_at + i) 0 ≡ count_for (card_in ws).parks i
  unfolding card_in
  count-is i h = sym (get_or-take line_count own i 0 h ∙ get_or-drop parks_at ws i 0)

  -- a park stored: its number is the line's count, and the one that is held of it
  pub parked-put : (i k : ℕ) → i < line_count → k ≡ number_now (card_in ws).parks i → set (set ws (parks_at + i) k) (held_at + i) k ≡ put_parks ws (parked (card_in ws).parks i)
  unfolding parked card_in
  parked-put i k h e =
      let first = set ws (parks_at + i) k in
      let behind : drop parks_at first ≡ set own i k = drop-set-add parks_at ws i k in
      let all = held-set first i k ∙ ap (λ (l : List ℕ). set l (line_count + i) k) behind in
      parks-are ws (set first (held_at + i) k) (parked (card_in ws).parks i)
      (take-set-le parks_at first (held_at + i) k (omega arith) ∙ take-set-le parks_at ws (parks_at + i) k (omega arith))
      (ap (take line_count) all ∙ take-set-le line_count (set own i k) (line_count + i) k (omega arith) ∙ take-set-lt line_count own i k h ∙ ap (set (take line_count own) i) e)
      (ap (drop line_count) all ∙ drop-set-add line_count (set own i k) i k ∙ ap (λ (l : List ℕ). set l i k) (drop-set-lt line_count own i k h) ∙ ap (set (drop line_count own) i) e)

  -- a number taken up
  pub taken-put : (i : ℕ) → set ws (held_at + i) 0 ≡ put_parks ws (taken (card_in ws).parks i)
  unfolding taken card_in
  taken-put i =
      let all = held-set ws i 0 in
      parks-are ws (set ws (held_at + i) 0) (taken (card_in ws).parks i) (take-set-le parks_at ws (held_at + i) 0 (omega arith))
      (ap (take line_count) all ∙ take-set-le line_count own (line_count + i) 0 (omega arith)) (ap (drop line_count) all ∙ drop-set-add line_count own i 0)

  -- where none is held, none is above its count
  pub none-ok : all_zero (take (length ws - held_at) (drop held_at ws)) ≡ true → parks_ok (card_in ws).parks ≡ true
  unfolding parks_ok card_in
  none-ok h =
      above-all line_count (card_in ws).parks
      (λ i. let z = zero-at (drop line_count own) i (ap all_zero (drop-drop line_count parks_at ws ∙ sym (tail-part held_at ws)) ∙ h) in omega (arith, z))
    where
      zero-at : (l : List ℕ) (i : ℕ) → all_zero l ≡ true → get_or l i 0 ≡ 0
      zero-at [] i z = refl
      zero-at (x ∷ l) zero z = eqb-true x 0 (both_left (is_zero x) (all_of is_zero l) z)
      zero-at (x ∷ l) (suc i) z = zero-at l i (both_right (is_zero x) (all_of is_zero l) z)
