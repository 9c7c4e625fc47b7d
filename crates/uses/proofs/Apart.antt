-- No two bytes that are noted are the same. The bytes to come for open lines and for parks that are held are all different, none of them was used, and their streams were begun: a crypt uses the first of
-- its line's, a park and a resume take them from place to place, and the bytes of a stream that begins are new, since no stream was begun with its cipher, key and IV.
-- Assumes nothing.
use Prim.Native.Nat.{ℕ, ◌+◌, ◌-◌, ◌<◌}
use mathlib.Core.Path.{◌≡◌, refl, ap, sym, ◌∙◌, subst}
use mathlib.Core.Bool.{Bool, true, false}
use mathlib.Core.List.{List, [], ◌∷◌, ◌++◌}
use native.Mathlib.Omega.{arith}
use native.Mathlib.Decide.{dec_lt, ℕ_discrete}
use lib.Dec.{eqb, ltb}
use lib.ListN.{length, get_or, set, get_or-eq_default}
use lib.Seq.{get_or-set_same, get_or-set_other, set_out}
use borrow.Author.Tests.{eqb-true, eqb-false, eq-eqb, ne_eqb, ltb-false}
use Rattle.words.specs.Tests.{pick}
use Rattle.machine.specs.Machine.{MLine, Machine, line_at, with_line, with_parks, idle, loaded_line, image_from, image_number, Call, Effect, refuse, put, crypt, park, resume, change, start, perform}
use Rattle.machine.specs.Parks.{Parks, held_for, parked, holds, taken}
use Rattle.lists.specs.Logs.{Did, did_nothing, did-open, did-crypt, did-park, did-resume, did-close, did-change, did-load, did-start}
use Rattle.machine.proofs.Parks.{holds-told, taken-spent, parked-other, taken-other}
use Rattle.machine.proofs.Simulation.{GoodCard, Fair, fair-crypt}
use Rattle.lists.proofs.Explained.{Explained, was-refused, was-open, was-crypt, was-park, was-resume, was-close, was-change, was-load, was-start}
use Rattle.uses.specs.Uses.{Origin, KeyByte, bytes_from, changed_at, first_bytes, Notes, change_origin, for_line, begins, note_call, In, in_head, NoneTwice}
use Rattle.uses.proofs.Twice.{Either, in-first, in-second, either-in, first-in, second-in, parts-apart, none-twice, nth_of, first-once}

-- ---- places

-- where bytes are to come: on an open line, and of a line whose park is held
pub data Place : Type 0 where
  here : ℕ → Place
  held : ℕ → Place

abbrev pub Live : Machine → Place → Type 0
Live m (here i) = (line_at m i).mode ≡ 1
Live m (held i) = held_for m.parks i ≡ 0 → ⊥

abbrev bytes_in : (coming parked : ℕ → ℕ → KeyByte) → Place → ℕ → KeyByte
bytes_in coming parked (here i) = coming i
bytes_in coming parked (held i) = parked i

abbrev pub bytes_at : Notes → Place → ℕ → KeyByte
bytes_at t = bytes_in t.coming t.parked

abbrev line_of_place : Place → ℕ
line_of_place (here i) = i
line_of_place (held i) = i

abbrev kind_of : Place → ℕ
kind_of (here i) = 0
kind_of (held i) = 1

here-held : (i j : ℕ) → here i ≡ held j → ⊥
here-held i j e = let z : ◌≡◌ {A = ℕ} 0 1 = ap kind_of e in omega (arith, z)

same_place : (p q : Place) → Dec (p ≡ q)
same_place (here i) (here j) = by (ℕ_discrete i j)
  where
    by : Dec (i ≡ j) → Dec (here i ≡ here j)
    by (yes e) = yes (ap here e)
    by (no n) = no (λ e. n (ap line_of_place e))
same_place (held i) (held j) = by (ℕ_discrete i j)
  where
    by : Dec (i ≡ j) → Dec (held i ≡ held j)
    by (yes e) = yes (ap held e)
    by (no n) = no (λ e. n (ap line_of_place e))
same_place (here i) (held j) = no (here-held i j)
same_place (held i) (here j) = no (λ e. here-held j i (sym e))

-- ---- all bytes to come are different

pub record Apart (live : Place → Type 0) (b : Place → ℕ → KeyByte) (os : List Origin) (us : List KeyByte) : Type 0 where
  pub apart : (p q : Place) → live p → live q → (k l : ℕ) → b p k ≡ b q l → (p ≡ q) × (k ≡ l)
  -- none of them was used, and all are of streams that were begun
  pub unused : (p : Place) → live p → (k : ℕ) → In (b p k) us → ⊥
  pub begun : (p : Place) → live p → (k : ℕ) → In (b p k).origin os
  -- so are those that were used, none of them twice
  pub origins : (u : KeyByte) → In u us → In u.origin os
  pub once : NoneTwice us

-- bytes that go from place to place
module _ {live live' : Place → Type 0} {b b' : Place → ℕ → KeyByte} {os : List Origin} {us : List KeyByte} (from : Place → Place)
    (was : (p : Place) → live' p → live (from p)) (is : (p : Place) → live' p → (k : ℕ) → b' p k ≡ b (from p) k) (one : (p q : Place) → live' p → live' q → from p ≡ from q → p ≡ q) where
  moved_apart : Apart live b os us → Apart live' b' os us
  moved_apart w =
      record {
        apart = λ p q a c k l e. let z = w.apart (from p) (from q) (was p a) (was q c) k l (sym (is p a k) ∙ e ∙ is q c l) in (one p q a c z.0, z.1);
        unused = λ p a k i. w.unused (from p) (was p a) k (subst (λ (x : KeyByte). In x us) (is p a k) i);
        begun = λ p a k. subst (λ (x : KeyByte). In x.origin os) (sym (is p a k)) (w.begun (from p) (was p a) k);
        origins = w.origins;
        once = w.once;
      }

-- those of place p, which go to q
module _ {live live' : Place → Type 0} {b b' : Place → ℕ → KeyByte} (p q : Place) (up : live p) (gone : live' p → ⊥)
    (was : (r : Place) → (r ≡ q → ⊥) → live' r → live r) (now : (k : ℕ) → b' q k ≡ b p k) (is : (r : Place) → (r ≡ q → ⊥) → (k : ℕ) → b' r k ≡ b r k) where
  source : (r : Place) → Dec (r ≡ q) → Place
  source r (yes _) = p
  source r (no _) = r

  source-was : (r : Place) (d : Dec (r ≡ q)) → live' r → live (source r d)
  unfolding source
  source-was r (yes _) a = up
  source-was r (no n) a = was r n a

  source_is : (r : Place) (d : Dec (r ≡ q)) (k : ℕ) → b' r k ≡ b (source r d) k
  unfolding source
  source_is r (yes e) k = ap (λ (s : Place). b' s k) e ∙ now k
  source_is r (no n) k = is r n k

  source_one : (r s : Place) (d : Dec (r ≡ q)) (e : Dec (s ≡ q)) → live' r → live' s → source r d ≡ source s e → r ≡ s
  unfolding source
  source_one r s (yes x) (yes y) a c z = x ∙ sym y
  source_one r s (yes x) (no y) a c z = absurd (gone (subst live' (sym z) c))
  source_one r s (no x) (yes y) a c z = absurd (gone (subst live' z a))
  source_one r s (no x) (no y) a c z = z

  shift-apart : {os : List Origin} {us : List KeyByte} → Apart live b os us → Apart live' b' os us
  shift-apart w =
      moved_apart (λ r. source r (same_place r q)) (λ r a. source-was r (same_place r q) a) (λ r a k. source_is r (same_place r q) k) (λ r s a c z. source_one r s (same_place r q) (same_place s q) a c z) w

-- the first n bytes of line j that are used
module _ {live live' : Place → Type 0} {b b' : Place → ℕ → KeyByte} {os : List Origin} {us : List KeyByte} (j n : ℕ) (up : live (here j)) (on : Place → ℕ) (far : on (here j) ≡ n)
    (was : (p : Place) → live' p → live p) (is : (p : Place) → live' p → (k : ℕ) → b' p k ≡ b p (on p + k)) (w : Apart live b os us) where
  used-apart : Apart live' b' os (us ++ first_bytes n (b (here j)))
  used-apart =
      record {
        apart =
            λ p q a c k l e.
            let z = w.apart p q (was p a) (was q c) (on p + k) (on q + l) (sym (is p a k) ∙ e ∙ is q c l) in
            let y = ap on z.0 in
            let x = z.1 in
            (z.0, omega (arith, x, y));
        unused = λ p a k i. unused p a k (either-in us _ (subst (λ (x : KeyByte). In x (us ++ first_bytes n (b (here j)))) (is p a k) i));
        begun = λ p a k. subst (λ (x : KeyByte). In x.origin os) (sym (is p a k)) (w.begun p (was p a) (on p + k));
        origins = λ u i. origins u (either-in us _ i);
        once =
            none-twice us (first_bytes n (b (here j))) w.once (first-once n (b (here j)) (λ k l e. (w.apart (here j) (here j) up up k l e).1))
            (λ x i i'. let h = nth_of n (b (here j)) x i' in w.unused (here j) up h.number (subst (λ (y : KeyByte). In y us) h.is i));
      }
    where
      unused : (p : Place) → live' p → (k : ℕ) → Either (b p (on p + k)) us (first_bytes n (b (here j))) → ⊥
      unused p a k (in-first i) = w.unused p (was p a) (on p + k) i
      unused p a k (in-second i) =
          let h = nth_of n (b (here j)) (b p (on p + k)) i in
          let z = w.apart p (here j) (was p a) up (on p + k) h.number h.is in
          let y = ap on z.0 in
          let x = z.1 in
          let q = h.below in
          omega (arith, x, y, q, far)

      origins : (u : KeyByte) → Either u us (first_bytes n (b (here j))) → In u.origin os
      origins u (in-first i) = w.origins u i
      origins u (in-second i) =
          let h = nth_of n (b (here j)) u i in
          subst (λ (x : KeyByte). In x.origin os) (sym h.is) (w.begun (here j) up h.number)

-- A stream that begins on line j, d bytes on: byte k to come is the one that it was, on an open line, or one of the new stream.
data Kind (old : ℕ → KeyByte) (up : Type 0) (new : ℕ → KeyByte) (o : Origin) (d k : ℕ) : Type 0 where
  stays : up → new k ≡ old k → Kind old up new o d k
  is-new : (n : ℕ) → n + d ≡ k → new k ≡ bytes_from o n → Kind old up new o d k

module _ {live live' : Place → Type 0} {b b' : Place → ℕ → KeyByte} {os : List Origin} {us : List KeyByte} (j d : ℕ) (o : Origin) (fresh : In o os → ⊥)
    (was : (p : Place) → live' p → (p ≡ here j → ⊥) → live p) (is : (p : Place) → (p ≡ here j → ⊥) → (k : ℕ) → b' p k ≡ b p k)
    (kind : (k : ℕ) → Kind (b (here j)) (live (here j)) (b' (here j)) o d k) (w : Apart live b os us) where
  new-old : (q : Place) → live q → (l n : ℕ) → b q l ≡ bytes_from o n → ⊥
  new-old q a l n e = fresh (subst (λ (x : KeyByte). In x.origin os) e (w.begun q a l))

  -- a byte of the line, and one of another place
  other : (q : Place) → live' q → (q ≡ here j → ⊥) → (k l : ℕ) → Kind (b (here j)) (live (here j)) (b' (here j)) o d k → b' (here j) k ≡ b' q l → ⊥
  other q a ne k l (stays up e) z = ne (sym (w.apart (here j) q up (was q a ne) k l (sym e ∙ z ∙ is q ne l)).0)
  other q a ne k l (is-new n _ e) z = new-old q (was q a ne) l n (sym (is q ne l) ∙ sym z ∙ e)

  same : (k l : ℕ) → Kind (b (here j)) (live (here j)) (b' (here j)) o d k → Kind (b (here j)) (live (here j)) (b' (here j)) o d l → b' (here j) k ≡ b' (here j) l → k ≡ l
  same k l (stays up e) (stays _ e') z = (w.apart (here j) (here j) up up k l (sym e ∙ z ∙ e')).1
  same k l (stays up e) (is-new n _ e') z = absurd (new-old (here j) up k n (sym e ∙ z ∙ e'))
  same k l (is-new n _ e) (stays up e') z = absurd (new-old (here j) up l n (sym e' ∙ sym z ∙ e))
  same k l (is-new n f e) (is-new n' f' e') z = let y : n ≡ n' = ap (λ (x : KeyByte). x.position) (sym e ∙ z ∙ e') in omega (arith, y, f, f')

  all_apart : (p q : Place) → live' p → live' q → (k l : ℕ) → b' p k ≡ b' q l → Dec (p ≡ here j) → Dec (q ≡ here j) → (p ≡ q) × (k ≡ l)
  all_apart p q a c k l z (yes x) (yes y) =
      (x ∙ sym y, same k l (kind k) (kind l) (ap (λ (r : Place). b' r k) (sym x) ∙ z ∙ ap (λ (r : Place). b' r l) y))
  all_apart p q a c k l z (yes x) (no y) = absurd (other q c y k l (kind k) (ap (λ (r : Place). b' r k) (sym x) ∙ z))
  all_apart p q a c k l z (no x) (yes y) = absurd (other p a x l k (kind l) (ap (λ (r : Place). b' r l) (sym y) ∙ sym z))
  all_apart p q a c k l z (no x) (no y) = w.apart p q (was p a x) (was q c y) k l (sym (is p x k) ∙ z ∙ is q y l)

  unused-here : (k : ℕ) → Kind (b (here j)) (live (here j)) (b' (here j)) o d k → In (b' (here j) k) us → ⊥
  unused-here k (stays up e) i = w.unused (here j) up k (subst (λ (x : KeyByte). In x us) e i)
  unused-here k (is-new n _ e) i = fresh (subst (λ (x : KeyByte). In x.origin os) e (w.origins (b' (here j) k) i))

  unused-at : (p : Place) → live' p → (k : ℕ) → In (b' p k) us → Dec (p ≡ here j) → ⊥
  unused-at p a k i (yes x) = unused-here k (kind k) (subst (λ (r : Place). In (b' r k) us) x i)
  unused-at p a k i (no x) = w.unused p (was p a x) k (subst (λ (y : KeyByte). In y us) (is p x k) i)

  begun-here : (k : ℕ) → Kind (b (here j)) (live (here j)) (b' (here j)) o d k → In (b' (here j) k).origin (os ++ (o ∷ []))
  begun-here k (stays up e) = subst (λ (x : KeyByte). In x.origin (os ++ (o ∷ []))) (sym e) (first-in (o ∷ []) (w.begun (here j) up k))
  begun-here k (is-new n _ e) = subst (λ (x : KeyByte). In x.origin (os ++ (o ∷ []))) (sym e) (second-in os in_head)

  begun-at : (p : Place) → live' p → (k : ℕ) → Dec (p ≡ here j) → In (b' p k).origin (os ++ (o ∷ []))
  begun-at p a k (yes x) = subst (λ (r : Place). In (b' r k).origin (os ++ (o ∷ []))) (sym x) (begun-here k (kind k))
  begun-at p a k (no x) = subst (λ (y : KeyByte). In y.origin (os ++ (o ∷ []))) (sym (is p x k)) (first-in (o ∷ []) (w.begun p (was p a x) k))

  begun-apart : Apart live' b' (os ++ (o ∷ [])) us
  begun-apart =
      record {
        apart = λ p q a c k l z. all_apart p q a c k l z (same_place p (here j)) (same_place q (here j));
        unused = λ p a k i. unused-at p a k i (same_place p (here j));
        begun = λ p a k. begun-at p a k (same_place p (here j));
        origins = λ u i. first-in (o ∷ []) (w.origins u i);
        once = w.once;
      }

-- ---- a call

abbrev pub ApartAt : Machine → Notes → Type 0
ApartAt m t = Apart (Live m) (bytes_at t) t.begun t.used

-- a line that is not set
pub other-line : (ls : List MLine) (j i : ℕ) (l : MLine) → eqb j i ≡ false → get_or (set ls j l) i idle ≡ get_or ls i idle
other-line ls j i l e = get_or-set_other ls j i l idle (λ z. eqb-false j i e (sym z))

-- what is noted of a line
pub its-note : {A : Type 0} (f : ℕ → A) (j : ℕ) (x : A) → for_line j x f j ≡ x
its-note f j x = rw (eq-eqb j j refl) refl

not-here : (j i : ℕ) → (here i ≡ here j → ⊥) → eqb j i ≡ false
not-here j i ne = ne_eqb j i (λ e. ne (ap here (sym e)))

not-held : (j i : ℕ) → (held i ≡ held j → ⊥) → eqb j i ≡ false
not-held j i ne = ne_eqb j i (λ e. ne (ap held (sym e)))

-- a number that is taken up is not held
pub taken_none : (p : Parks) (i : ℕ) → held_for (taken p i) i ≡ 0
unfolding taken
taken_none p i = by (dec_lt i (length p.held))
  where
    by : Dec (i < length p.held) → get_or (set p.held i 0) i 0 ≡ 0
    by (yes q) = get_or-set_same p.held i 0 0 q
    by (no q) = ap (λ (l : List ℕ). get_or l i 0) (set_out p.held i 0 (omega (arith, q))) ∙ get_or-eq_default p.held 0 (omega (arith, q))

module _ (m : Machine) (eight : length m.lines ≡ 8) (good : GoodCard m) (a : Call) (t : Notes) (w : ApartAt m t) where
  -- another line is as it was
  same-mode : (j i : ℕ) (l : MLine) → eqb j i ≡ false → (get_or (set m.lines j l) i idle).mode ≡ 1 → (line_at m i).mode ≡ 1
  same-mode j i l e h = sym (ap (λ (x : MLine). x.mode) (other-line m.lines j i l e)) ∙ h

  -- line j is set to l, which is not open
  module _ (j : ℕ) (l : MLine) (below : j < 8) (shut : l.mode ≡ 1 → ⊥) where
    now-shut : (get_or (set m.lines j l) j idle).mode ≡ 1 → ⊥
    now-shut h = shut (sym (ap (λ (x : MLine). x.mode) (get_or-set_same m.lines j l idle (omega (arith, below, eight)))) ∙ h)

    still_open : (i : ℕ) → (get_or (set m.lines j l) i idle).mode ≡ 1 → (line_at m i).mode ≡ 1
    still_open i h = by (eqb j i) refl
      where
        by : (b : Bool) → eqb j i ≡ b → (line_at m i).mode ≡ 1
        by true e = absurd (now-shut (ap (λ (k : ℕ). (get_or (set m.lines j l) k idle).mode) (eqb-true j i e) ∙ h))
        by false e = same-mode j i l e h

    shut_apart : ApartAt (with_line m j l) t
    shut_apart = moved_apart (λ p. p) was (λ p h k. refl) (λ p q h g e. e) w
      where
        was : (p : Place) → Live (with_line m j l) p → Live m p
        was (here i) h = still_open i h
        was (held i) h = h

  -- a stream that begins on line j
  begin-apart : (j d : ℕ) (l : MLine) (f : ℕ → KeyByte) (o : Origin) → NoneTwice (t.begun ++ (o ∷ [])) → ((k : ℕ) → Kind (t.coming j) ((line_at m j).mode ≡ 1) f o d k) →
      ApartAt (with_line m j l) (begins t j f o)
  begin-apart j d l f o n kind =
      begun-apart j d o (λ i. parts-apart t.begun (o ∷ []) n i in_head) was is
      (λ k. subst (λ (g : ℕ → KeyByte). Kind (t.coming j) ((line_at m j).mode ≡ 1) g o d k) (sym (its-note t.coming j f)) (kind k)) w
    where
      was : (p : Place) → Live (with_line m j l) p → (p ≡ here j → ⊥) → Live m p
      was (here i) h ne = same-mode j i l (not-here j i ne) h
      was (held i) h ne = h

      is : (p : Place) → (p ≡ here j → ⊥) → (k : ℕ) → bytes_at (begins t j f o) p k ≡ bytes_at t p k
      is (here i) ne k = rw (not-here j i ne) refl
      is (held i) ne k = refl

  -- a crypt
  crypt-apart : (j : ℕ) (l : MLine) (input output : List ℕ) → (line_at m j).mode ≡ 1 → ApartAt (with_line m j l) (note_call t (did-crypt j input output))
  crypt-apart j l input output up = used-apart j (length input) up on (its-note (λ _. 0) j (length input)) was is w
    where
      on : Place → ℕ
      on (here i) = pick (eqb j i) (length input) 0
      on (held i) = 0

      was : (p : Place) → Live (with_line m j l) p → Live m p
      was (here i) h = by (eqb j i) refl
        where
          by : (b : Bool) → eqb j i ≡ b → (line_at m i).mode ≡ 1
          by true e = subst (λ (k : ℕ). (line_at m k).mode ≡ 1) (eqb-true j i e) up
          by false e = same-mode j i l e h
      was (held i) h = h

      is : (p : Place) → Live (with_line m j l) p → (k : ℕ) → bytes_at (note_call t (did-crypt j input output)) p k ≡ bytes_at t p (on p + k)
      is (here i) h k = by (eqb j i) refl
        where
          by : (b : Bool) → eqb j i ≡ b → pick b (λ k. t.coming j (length input + k)) (t.coming i) k ≡ t.coming i (pick b (length input) 0 + k)
          by true e = ap (λ (x : ℕ). t.coming x (length input + k)) (eqb-true j i e)
          by false e = ap (t.coming i) (let z : k ≡ 0 + k = omega arith in z)
      is (held i) h k = ap (t.parked i) (let z : k ≡ 0 + k = omega arith in z)

  -- a park: its line's bytes are those of the park
  park-apart : (j : ℕ) (image : List ℕ) → j < 8 → (line_at m j).mode ≡ 1 → ApartAt (with_parks (with_line m j idle) (parked m.parks j)) (note_call t (did-park j image))
  park-apart j image below up =
      shift-apart (here j) (held j) up (now-shut j idle below shut) was (λ k. ap (λ (g : ℕ → KeyByte). g k) (its-note t.parked j (t.coming j))) is w
    where
      shut : idle.mode ≡ 1 → ⊥
      shut e = omega (arith, e)

      was : (p : Place) → (p ≡ held j → ⊥) → Live (with_parks (with_line m j idle) (parked m.parks j)) p → Live m p
      was (here i) ne h = still_open j idle below shut i h
      was (held i) ne h = λ z. h (parked-other m.parks j i (λ e. ne (ap held e)) ∙ z)

      is : (p : Place) → (p ≡ held j → ⊥) → (k : ℕ) → bytes_at (note_call t (did-park j image)) p k ≡ bytes_at t p k
      is (here i) ne k = refl
      is (held i) ne k = rw (not-held j i ne) refl

  -- a resume: those of the park are its line's
  resume-apart : (j : ℕ) (l : MLine) (image : List ℕ) → holds m.parks (image_from image) (image_number image) ≡ true →
      ApartAt (with_parks (with_line m j l) (taken m.parks (image_from image))) (note_call t (did-resume j image))
  resume-apart j l image h =
      shift-apart (held (image_from image)) (here j) up (λ g. g (taken_none m.parks (image_from image))) was
      (λ k. ap (λ (g : ℕ → KeyByte). g k) (its-note t.coming j (t.parked (image_from image)))) is w
    where
      up : held_for m.parks (image_from image) ≡ 0 → ⊥
      up z =
          (taken-spent m.parks (image_from image) (image_number image) good.long good.parks h).given.some (sym (holds-told m.parks (image_from image) (image_number image) h) ∙ z)

      was : (p : Place) → (p ≡ here j → ⊥) → Live (with_parks (with_line m j l) (taken m.parks (image_from image))) p → Live m p
      was (here i) ne g = same-mode j i l (not-here j i ne) g
      was (held i) ne g = λ z. g (by (ℕ_discrete i (image_from image)) z)
        where
          by : Dec (i ≡ image_from image) → held_for m.parks i ≡ 0 → held_for (taken m.parks (image_from image)) i ≡ 0
          by (yes e) z = ap (held_for (taken m.parks (image_from image))) e ∙ taken_none m.parks (image_from image)
          by (no n) z = taken-other m.parks (image_from image) i n ∙ z

      is : (p : Place) → (p ≡ here j → ⊥) → (k : ℕ) → bytes_at (note_call t (did-resume j image)) p k ≡ bytes_at t p k
      is (here i) ne k = rw (not-here j i ne) refl
      is (held i) ne k = refl

  -- a change, at a number of bytes on
  change-kind : (j p : ℕ) (o : Origin) → (line_at m j).mode ≡ 1 → (k : ℕ) → Kind (t.coming j) ((line_at m j).mode ≡ 1) (changed_at (t.coming j) p o) o (p - (t.coming j 0).position) k
  unfolding changed_at
  change-kind j p o up k = by (ltb k (p - (t.coming j 0).position)) refl
    where
      by : (b : Bool) → ltb k (p - (t.coming j 0).position) ≡ b → Kind (t.coming j) ((line_at m j).mode ≡ 1) (changed_at (t.coming j) p o) o (p - (t.coming j 0).position) k
      by true e = stays up (ap (λ (b : Bool). pick b (t.coming j k) (bytes_from o (k - (p - (t.coming j 0).position)))) e)
      by false e =
          let q = ltb-false k (p - (t.coming j 0).position) e in
          is-new (k - (p - (t.coming j 0).position)) (omega (arith, q)) (ap (λ (b : Bool). pick b (t.coming j k) (bytes_from o (k - (p - (t.coming j 0).position)))) e)

  -- an open or a start
  first_kind : (j : ℕ) (o : Origin) (k : ℕ) → Kind (t.coming j) ((line_at m j).mode ≡ 1) (bytes_from o) o 0 k
  first_kind j o k = is-new k (omega arith) refl

  pub call-apart : (e : Effect) (d : Did) → Explained m a e d → Fair m a e → NoneTwice (note_call t d).begun → ApartAt (perform m a.text e).machine (note_call t d)
  unfolding loaded_line
  call-apart (refuse k) did_nothing was-refused _ n = w
  call-apart (put j l size) (did-open _ c key iv) (was-open s) _ n = begin-apart j 0 l _ _ n (first_kind j _)
  call-apart (crypt j k size) (did-crypt _ input output) (was-crypt s q) (fair-crypt up _ _) n = crypt-apart j _ input output up
  call-apart (park j size) (did-park _ image) (was-park s up z r) _ n = park-apart j image s.below up
  call-apart (resume j l k size) (did-resume _ image) (was-resume s h) _ n = resume-apart j l image h
  call-apart (put j l size) (did-close _) (was-close s) _ n = shut_apart j l s.below (λ z. omega (arith, z))
  call-apart (put j l size) (did-load _ c key) (was-load s g k) _ n = shut_apart j l s.below (λ z. omega (arith, z))
  call-apart (start j iv size) (did-start _ _) (was-start s up) _ n = begin-apart j 0 _ _ _ n (first_kind j _)
  call-apart (change j p _ size) (did-change _ _ key iv) (was-change s up z le) _ n = begin-apart j _ _ _ _ n (change-kind j p (change_origin t j key iv) up)
  call-apart _ _ x _ n = elim x [ ]
