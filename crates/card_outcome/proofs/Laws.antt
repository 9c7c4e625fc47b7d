-- What each effect gives of a card's words, row by row of the table of refusals: a row whose condition holds gives its refusal, one whose condition does not hold gives what is left, and a line
-- put in its place is seen there.
-- Assumes nothing.
use mathlib.Core.Path.{◌≡◌, refl, ap, ap₂, sym, subst, ◌∙◌}
use mathlib.Core.Bool.{Bool, true, false, not}
use mathlib.Core.List.{List, [], ◌∷◌, ◌++◌, map}
use Prim.Native.Nat.{ℕ, zero, suc, ◌<◌, ◌≤◌}
use native.Mathlib.Nat.{le_of_suc-le-suc, not-suc-le-zero}
use native.Mathlib.Decide.{dec_lt}
use native.Mathlib.Omega.{arith}
use lib.Dec.{leb, eqb}
use Rattle.std.specs.Prelude.{Result, Ok, Err, IsErr, IsErrAnd}
use lib.ListN.{length, get_or, take, drop}
use lib.Seq.{length-take-le}
use borrow.Author.Tests.{ne_eqb}
use Rattle.words.specs.Tests.{both, pick}
use Rattle.words.proofs.Tests.{both_left, both_right}
use Rattle.card_sizes.specs.Sizes.{line_count, image_length}
use Rattle.command.specs.declared.Refusal.{Refusal}
use Rattle.command.specs.Decode.{refusal_number}
use Rattle.command.specs.Rows.{Row, unless, code_of}
use Rattle.command.proofs.Numbers.{refused}
use Rattle.command.proofs.Rows.{AllPassed, code-yes, code-no}
use Rattle.machine.specs.Machine.{Line, MLine, View, Seen, no_view, Effect, refuse, put, crypt, park, resume, change, start, refuse_if, idle, idle_line, based, shown, moved, enciphered, changed, started_line, view_of, view_at, is_idle, is_open, is_loaded, line_ok, open_ok, loaded_ok, idle_ok, all_ok, image_of, back, seen, with_line, with_line_seen, with_parks_seen}
use Rattle.machine.specs.Parks.{Parks, count_for, last_park, no_more, number_now, parked, holds, taken, parks_ok}
use Rattle.machine.specs.Calls.{line_on}
use Rattle.machine.proofs.Moves.{enciphered-length}
use Rattle.machine.proofs.Parks.{Long, parked-long, taken-long}
use Rattle.machine.proofs.Lines.{shown-based, shown-idle}
use Rattle.machine.proofs.Seen.{seen_back, seen-with}
use Rattle.card_layout.specs.Words.{words_at, card_in, card_words, put_line, put_parks, Sound}
use Rattle.card_line.proofs.Lines.{Plain, ok-plain, idle-plain}
use Rattle.card_layout.proofs.Cards.{line-here, card-lines, card-long, put-seen, put-words, parks-seen, parks-words}
use Rattle.card_layout.proofs.Several.{put-sound}
use Rattle.card_outcome.specs.declared.Counts.{Counts}
use Rattle.card_outcome.specs.declared.Outcome.{Outcome}
use Rattle.card_outcome.specs.Outcomes.{refusal, acceptance, outcome_for, outcome_of}
use Rattle.card_outcome.specs.Leaves.{out_of, words_of, public_of, EffectLeaves}

-- ---- the lines of a card that is as a call leaves it

line_ok_lem : (n : ℕ) (ls : List Line) (i : ℕ) → i < n → all_ok n ls ≡ true → line_ok (get_or ls i idle_line) ≡ true
line_ok_lem zero ls i h e = absurd (not-suc-le-zero h)
line_ok_lem (suc n) ls i h e = go (dec_lt i n) (λ q. line_ok_lem n ls i q (both_left (all_ok n ls) (line_ok (get_or ls n idle_line)) e))
  where
    go : Dec (i < n) → (i < n → line_ok (get_or ls i idle_line) ≡ true) → line_ok (get_or ls i idle_line) ≡ true
    go (yes q) r = r q
    go (no q) r =
        let z : i ≡ n = omega arith in
        ap (λ (k : ℕ). line_ok (get_or ls k idle_line)) z ∙ both_right (all_ok n ls) (line_ok (get_or ls n idle_line)) e

pub sound-ok : (ws : List ℕ) → Sound ws → (i : ℕ) → i < line_count → line_ok (line_on (card_in ws) i) ≡ true
sound-ok ws s i h = line_ok_lem line_count (card_in ws).lines i h (both_left _ (parks_ok (card_in ws).parks) s.ok)

pub sound-plain : (ws : List ℕ) → Sound ws → (i : ℕ) → i < line_count → Plain (line_on (card_in ws) i)
sound-plain ws s i h =
    let e = line-here ws i h in
    subst Plain (sym e) (ok-plain (words_at ws i) (sym (ap line_ok e) ∙ sound-ok ws s i h))

-- a line that says it is open is well formed
pub open-ok-of : (l : Line) → line_ok l ≡ true → l.mode ≡ 1 → open_ok l ≡ true
unfolding line_ok
open-ok-of l a m = sym (ap (λ (x : ℕ). pick (eqb x 0) (idle_ok l) (pick (eqb x 1) (open_ok l) (both (eqb x 2) (loaded_ok l)))) m) ∙ a

pub loaded-ok-of : (l : Line) → line_ok l ≡ true → l.mode ≡ 2 → loaded_ok l ≡ true
unfolding line_ok
loaded-ok-of l a m = sym (ap (λ (x : ℕ). pick (eqb x 0) (idle_ok l) (pick (eqb x 1) (open_ok l) (both (eqb x 2) (loaded_ok l)))) m) ∙ a

-- ---- what the rows ask of the line that a command names

-- what is public of a line that is seen
abbrev pub view_in : Line → View
view_in l = record { mode = l.mode; cipher = l.cipher; pos = l.n; due = l.due }

module _ (ws : List ℕ) (i : ℕ) where
  pub view-is : view_at (public_of ws) i ≡ view_in (line_on (card_in ws) i)
  unfolding public_of view_of based
  view-is = go (card_in ws).lines i
    where
      go : (ls : List Line) (i : ℕ) →
          get_or (map view_of (map based ls)) i no_view ≡ view_in (get_or ls i idle_line)
      go [] i = refl
      go (l ∷ ls) zero = refl
      go (l ∷ ls) (suc i) = go ls i

  pub shut-is : {m : ℕ} → m ≡ (line_on (card_in ws) i).mode → (b : Bool) → eqb m 1 ≡ b → not (is_open (public_of ws) i) ≡ not b
  shut-is e b h = ap not (ap (λ (v : View). eqb v.mode 1) view-is ∙ ap (λ (x : ℕ). eqb x 1) (sym e) ∙ h)

  pub idle-is : {m : ℕ} → m ≡ (line_on (card_in ws) i).mode → (b : Bool) → eqb m 0 ≡ b → is_idle (public_of ws) i ≡ b
  idle-is e b h = ap (λ (v : View). eqb v.mode 0) view-is ∙ ap (λ (x : ℕ). eqb x 0) (sym e) ∙ h

  pub busy-is : {m : ℕ} → m ≡ (line_on (card_in ws) i).mode → (b : Bool) → eqb m 0 ≡ b → not (is_idle (public_of ws) i) ≡ not b
  busy-is e b h = ap not (idle-is e b h)

  pub unloaded-is : {m : ℕ} → m ≡ (line_on (card_in ws) i).mode → (b : Bool) → eqb m 2 ≡ b → not (is_loaded (public_of ws) i) ≡ not b
  unloaded-is e b h = ap not (ap (λ (v : View). eqb v.mode 2) view-is ∙ ap (λ (x : ℕ). eqb x 2) (sym e) ∙ h)

-- what the rows ask of the parks

pub full_is : (ws : List ℕ) (i : ℕ) {n : ℕ} → n ≡ count_for (card_in ws).parks i → (b : Bool) → leb last_park n ≡ b → no_more (public_of ws).parks i ≡ b
unfolding public_of no_more
full_is ws i e b h = ap (leb last_park) (sym e) ∙ h

pub held_by : (ws : List ℕ) (j k : ℕ) → holds (public_of ws).parks j k ≡ holds (card_in ws).parks j k
unfolding public_of
held_by ws j k = refl

-- a line that is put leaves them
pub put-parks : (ws : List ℕ) (i : ℕ) (l : Line) → i < line_count → Sound ws → Plain l → (card_in (put_line ws i l)).parks ≡ (card_in ws).parks
put-parks ws i l q s p = ap (λ (c : Seen). c.parks) (put-seen ws i l q s.size p)

-- ---- what an effect gives

-- a result that hands on a refusal, as `?` does
pub handed-on : (r : Result Counts Refusal) {e : Refusal} → IsErr r × IsErrAnd r (λ x. x ≡ e) → r ≡ Err e
handed-on (Ok x) h = absurd h.1
handed-on (Err x) h = ap Err h.1

-- what one effect leaves, an effect that is the same leaves
pub by-rows : (ws : List ℕ) {e f : Effect} (text out : List ℕ) {r : Outcome} {ws' o : List ℕ} → e ≡ f → EffectLeaves ws text out f r ws' o → EffectLeaves ws text out e r ws' o
by-rows ws text out {r = r} {ws' = ws'} {o = o} q h = subst (λ (x : Effect). EffectLeaves ws text out x r ws' o) (sym q) h

module _ (ws text out : List ℕ) where
  pub given-true : (b : Bool) (k : ℕ) (e : Effect) {r : Outcome} {ws' o : List ℕ} → b ≡ true → EffectLeaves ws text out (refuse k) r ws' o → EffectLeaves ws text out (refuse_if b k e) r ws' o
  unfolding refuse_if
  given-true b k e h g = rw h g

  pub given-false : (b : Bool) (k : ℕ) (e : Effect) {r : Outcome} {ws' o : List ℕ} → b ≡ false → EffectLeaves ws text out e r ws' o → EffectLeaves ws text out (refuse_if b k e) r ws' o
  unfolding refuse_if
  given-false b k e h g = rw h g

  -- a refusal leaves the words and out
  pub given-refusal : (k : ℕ) → (k ≡ 0 → ⊥) → {r : Outcome} → r ≡ refusal k → EffectLeaves ws text out (refuse k) r ws out
  unfolding outcome_of out_of words_of
  given-refusal k f e =
      record {
        outcome-is = e;
        card-is = sym (seen_back (card_in ws));
        words_are = ap (λ (b : Bool). pick b (card_words (seen (back (card_in ws)))) ws) (sym (ne_eqb k 0 f));
        out-is = refl;
      }

  -- rows that refuse, by the number of the first that is given
  pub given-rows : (rows : List Row) (e : Effect) {k : ℕ} → k ≡ code_of rows → (k ≡ 0 → ⊥) → {r : Outcome} → r ≡ refusal k → EffectLeaves ws text out (unless refuse_if rows e) r ws out
  given-rows [] e h f g = absurd (f h)
  given-rows (x ∷ rows) e {k} h f {r} g = by x.given refl (λ y. given-rows rows e y f g)
    where
      by : (b : Bool) → x.given ≡ b → (k ≡ code_of rows → EffectLeaves ws text out (unless refuse_if rows e) r ws out) →
          EffectLeaves ws text out (refuse_if x.given x.number (unless refuse_if rows e)) r ws out
      by true y rest =
          let n = h ∙ code-yes x rows y in
          given-true x.given x.number (unless refuse_if rows e) y (given-refusal x.number (λ z. f (n ∙ z)) (g ∙ ap refusal n))
      by false y rest = given-false x.given x.number (unless refuse_if rows e) y (rest (h ∙ code-no x rows y))

  -- what a refusal says
  pub given-err : (e : Refusal) → EffectLeaves ws text out (refuse (refusal_number e)) (outcome_for (Err e)) ws out
  given-err e = given-refusal (refusal_number e) (refused e) refl

  -- what a check says that its rows refuse, handed on
  pub given-check : (rows : List Row) (f : Effect) {e : Refusal} {r : Result Counts Refusal} → refusal_number e ≡ code_of rows → r ≡ Err e →
      EffectLeaves ws text out (unless refuse_if rows f) (outcome_for r) ws out
  given-check rows f {e} h t = given-rows rows f h (refused e) (ap outcome_for t)

  -- rows of which none is given
  pub given-passed : (rows : List Row) (e : Effect) → AllPassed rows → {r : Outcome} {ws' o : List ℕ} → EffectLeaves ws text out e r ws' o →
      EffectLeaves ws text out (unless refuse_if rows e) r ws' o
  given-passed [] e p g = g
  given-passed (x ∷ rows) e p g = given-false x.given x.number (unless refuse_if rows e) p.0 (given-passed rows e p.1 g)

  module _ (s : Sound ws) (i : ℕ) (q : i < line_count) where
    base-is : get_or (map based (card_in ws).lines) i idle ≡ based (line_on (card_in ws) i)
    base-is = go (card_in ws).lines i (omega (arith, card-lines ws))
      where
        go : (ls : List Line) (i : ℕ) → i < length ls → get_or (map based ls) i idle ≡ based (get_or ls i idle_line)
        go [] i h = absurd (not-suc-le-zero h)
        go (l ∷ ls) zero h = refl
        go (l ∷ ls) (suc i) h = go ls i (le_of_suc-le-suc h)

    -- words in which a line was put, as an accepted call leaves them
    placed-seen : (m : MLine) (l : Line) → l ≡ shown m → Plain l → {ws' : List ℕ} → ws' ≡ put_line ws i l → card_in ws' ≡ seen (with_line (back (card_in ws)) i m)
    placed-seen m l e p h = ap card_in h ∙ put-seen ws i l q s.size p ∙ ap (with_line_seen (card_in ws) i) e ∙ sym (seen-with (card_in ws) i m)

    placed-words : (m : MLine) (l : Line) → l ≡ shown m → {ws' : List ℕ} → ws' ≡ put_line ws i l → ws' ≡ card_words (seen (with_line (back (card_in ws)) i m))
    placed-words m l e h = h ∙ sym (put-words ws i l q s) ∙ ap (λ (x : Line). card_words (with_line_seen (card_in ws) i x)) e ∙ ap card_words (sym (seen-with (card_in ws) i m))

    pub given-put : (size : ℕ) (m : MLine) (l : Line) → l ≡ shown m → Plain l → {ws' : List ℕ} → ws' ≡ put_line ws i l → {r : Outcome} → r ≡ acceptance size 0 0 →
        EffectLeaves ws text out (put i m size) r ws' out
    unfolding outcome_of out_of words_of
    given-put size m l e p h k = record { outcome-is = k; card-is = placed-seen m l e p h; words_are = placed-words m l e h; out-is = refl }

    pub given-crypt : (n size : ℕ) → n ≤ length text → (l : Line) → l ≡ shown (moved (based (line_on (card_in ws) i)) n) → Plain l → {ws' : List ℕ} → ws' ≡ put_line ws i l →
        {o : List ℕ} → o ≡ enciphered (based (line_on (card_in ws) i)) (take n text) ++ drop n out → {r : Outcome} → r ≡ acceptance size n n → EffectLeaves ws text out (crypt i n size) r ws' o
    unfolding outcome_of out_of words_of
    given-crypt n size f l e p h g k =
        let m = get_or (map based (card_in ws).lines) i idle in
        let b : based (line_on (card_in ws) i) ≡ m = sym base-is in
        let w : enciphered (based (line_on (card_in ws) i)) (take n text) ≡ enciphered m (take n text) = ap (λ (x : MLine). enciphered x (take n text)) b in
        let lw : n ≡ length (enciphered m (take n text)) = sym (enciphered-length m (take n text) ∙ length-take-le n text f) in
        let e' = e ∙ ap (λ (x : MLine). shown (moved x n)) b in
        record {
          outcome-is = k ∙ ap (acceptance size n) lw;
          card-is = placed-seen (moved m n) l e' p h;
          words_are = placed-words (moved m n) l e' h;
          out-is = g ∙ ap₂ (λ (x : List ℕ) (j : ℕ). x ++ drop j out) w lw;
        }

    -- a line that is made of the one that was there
    anew : (f : MLine → MLine) (l : Line) → l ≡ shown (f (based (line_on (card_in ws) i))) → l ≡ shown (f (get_or (map based (card_in ws).lines) i idle))
    anew f l e = e ∙ ap (λ (x : MLine). shown (f x)) (sym base-is)

    pub given-change : (p : ℕ) (s' : List ℕ) (size : ℕ) (l : Line) → l ≡ shown (changed (based (line_on (card_in ws) i)) p s') → Plain l → {ws' : List ℕ} → ws' ≡ put_line ws i l →
        {r : Outcome} → r ≡ acceptance size 0 0 → EffectLeaves ws text out (change i p s' size) r ws' out
    unfolding outcome_of out_of words_of
    given-change p s' size l e f h k =
        let m = get_or (map based (card_in ws).lines) i idle in
        let e' = anew (λ x. changed x p s') l e in
        record { outcome-is = k; card-is = placed-seen (changed m p s') l e' f h; words_are = placed-words (changed m p s') l e' h; out-is = refl }

    pub given-start : (iv : List ℕ) (size : ℕ) (l : Line) → l ≡ shown (started_line (based (line_on (card_in ws) i)) iv) → Plain l → {ws' : List ℕ} → ws' ≡ put_line ws i l →
        {r : Outcome} → r ≡ acceptance size 0 0 → EffectLeaves ws text out (start i iv size) r ws' out
    unfolding outcome_of out_of words_of
    given-start iv size l e f h k =
        let m = get_or (map based (card_in ws).lines) i idle in
        let e' = anew (λ x. started_line x iv) l e in
        record { outcome-is = k; card-is = placed-seen (started_line m iv) l e' f h; words_are = placed-words (started_line m iv) l e' h; out-is = refl }

    -- and then its parks
    module _ (m : MLine) (l : Line) (e : l ≡ shown m) (p : Plain l) (ok : line_ok l ≡ true) (f : Parks → Parks) (keeps : (x : Parks) → Long x → Long (f x)) where
      both-seen : {ws' : List ℕ} → ws' ≡ put_parks (put_line ws i l) (f (card_in (put_line ws i l)).parks) →
          card_in ws' ≡ with_parks_seen (seen (with_line (back (card_in ws)) i m)) (f (card_in ws).parks)
      both-seen h =
          ap card_in h ∙ parks-seen (put_line ws i l) (f (card_in (put_line ws i l)).parks) (put-sound ws s i q l p ok).size
          (keeps (card_in (put_line ws i l)).parks (card-long (put_line ws i l) (put-sound ws s i q l p ok).size))
          ∙ ap₂ (λ (c : Seen) (x : Parks). with_parks_seen c (f x)) (placed-seen m l e p refl) (put-parks ws i l q s p)

      both_words : {ws' : List ℕ} → ws' ≡ put_parks (put_line ws i l) (f (card_in (put_line ws i l)).parks) →
          ws' ≡ card_words (with_parks_seen (seen (with_line (back (card_in ws)) i m)) (f (card_in ws).parks))
      both_words h =
          h ∙ sym (parks-words (put_line ws i l) (f (card_in (put_line ws i l)).parks) (put-sound ws s i q l p ok))
          ∙ ap₂ (λ (c : Seen) (x : Parks). card_words (with_parks_seen c (f x))) (placed-seen m l e p refl) (put-parks ws i l q s p)

    pub given-park : (size : ℕ) → length (image_of i (number_now (card_in ws).parks i) (line_on (card_in ws) i)) ≡ image_length →
        {ws' : List ℕ} → ws' ≡ put_parks (put_line ws i idle_line) (parked (card_in (put_line ws i idle_line)).parks i) →
        {o : List ℕ} → o ≡ image_of i (number_now (card_in ws).parks i) (line_on (card_in ws) i) ++ drop image_length out → {r : Outcome} → r ≡ acceptance size 0 image_length → EffectLeaves ws text out (park i size) r ws' o
    unfolding outcome_of out_of words_of line_ok idle_ok
    given-park size t h g k =
        let m = get_or (map based (card_in ws).lines) i idle in
        let image = image_of i (number_now (card_in ws).parks i) in
        let w : image (line_on (card_in ws) i) ≡ image (shown m) = sym (ap image (ap shown base-is ∙ shown-based (line_on (card_in ws) i))) in
        let n : image_length ≡ length (image (shown m)) = sym t ∙ ap length w in
        record {
          outcome-is = k ∙ ap (acceptance size 0) n;
          card-is = both-seen idle idle_line (sym shown-idle) idle-plain refl (λ x. parked x i) (λ x. parked-long x i) h;
          words_are = both_words idle idle_line (sym shown-idle) idle-plain refl (λ x. parked x i) (λ x. parked-long x i) h;
          out-is = g ∙ ap₂ (λ (x : List ℕ) (j : ℕ). x ++ drop j out) w n;
        }

    pub given-resume : (n size : ℕ) (m : MLine) (l : Line) → l ≡ shown m → Plain l → line_ok l ≡ true →
        {ws' : List ℕ} → ws' ≡ put_parks (put_line ws i l) (taken (card_in (put_line ws i l)).parks n) → {r : Outcome} → r ≡ acceptance size 0 0 →
        EffectLeaves ws text out (resume i m n size) r ws' out
    unfolding outcome_of out_of words_of
    given-resume n size m l e p ok h k =
        record { outcome-is = k; card-is = both-seen m l e p ok (λ x. taken x n) (λ x. taken-long x n) h; words_are = both_words m l e p ok (λ x. taken x n) (λ x. taken-long x n) h; out-is = refl }
