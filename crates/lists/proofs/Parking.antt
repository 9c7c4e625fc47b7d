-- What becomes of a parked call that is brought back: its number is held of its line until that line parks again or it is taken up, and is spent from then on. A park's number counts its line's
-- parks, so what it writes is fixed by its line and that count.
-- Assumes nothing.
use mathlib.Core.Path.{◌≡◌, refl, ap, ap₂, sym, ◌∙◌, subst}
use mathlib.Core.Bool.{Bool, true, false, not}
use mathlib.Core.List.{List, [], ◌∷◌}
use Prim.Native.Nat.{ℕ, zero, suc, ◌+◌, ◌^◌, ◌<◌}
use native.Mathlib.Omega.{arith}
use lib.Dec.{eqb, ltb}
use lib.ListN.{get_or}
use borrow.Author.Tests.{eqb-true, eqb-false, eq-eqb, lt-ltb}
use Rattle.std.specs.Prelude.{Ok}
use Rattle.words.specs.Tests.{pick}
use Rattle.words.proofs.Tests.{both_left}
use Rattle.command.specs.declared.Command.TheVariants.{Resume}
use Rattle.command.specs.Decode.{decode_of}
use Rattle.machine.specs.Machine.{Line, MLine, Machine, Seen, line_at, plain_line, shown, image_of, image_in, image_line, image_from, image_number, image_ok, from_ok, change_ok, open_ok, Call, Effect, refuse, put, crypt, park, resume, change, start, View, view_of, public, is_idle, refuse_if, effect_of, decided, decide, perform, step, fresh_machine, fresh_card}
use Rattle.machine.specs.Parks.{Parks, count_for, held_for, number_now, parked, holds}
use Rattle.machine.specs.Calls.{Made, machine_run, calls_of, card_after, line_on, AllBytes}
use Rattle.lists.specs.Logs.{Did, did_nothing, did-open, did-crypt, did-park, did-resume, did-close, did-change, did-load, did-start, did}
use Rattle.lists.specs.OneStream.{Stands}
use Rattle.lists.specs.Parking.{Brings, AllLeave, park_on, parks_from, ParkedCalls, SameImages}
use Rattle.machine.proofs.Lines.{Good, open_is, good-ok}
use Rattle.machine.proofs.Parks.{Given, Spent, spent-refused, parked-given, taken-given, replaced-spent, now-given, now-held, now-counted, counted-other, taken-count, holds-told, held-holds, parked-other, taken-other, Long, parked-long, taken-long, fresh-long, fresh-count, number_word}
use Rattle.machine.proofs.Simulation.{good-get, view-get}
use Rattle.machine.proofs.Fields.{image-back, from_back, number-back}
use Rattle.lists.proofs.Explained.{Explained, was-refused, was-open, was-crypt, was-park, was-resume, was-close, was-change, was-load, was-start}
use Rattle.lists.proofs.Streams.{seen_at}
use Rattle.lists.proofs.OneStream.{Runs, machine_after, machine_next, explained-at, sized, stands-in, later, parks-step, parks-since, spent-since, place, runs-since, told_at, spent-at}

-- ---- a number that stays held

held-step : (m : Machine) (a : Call) (i n : ℕ) (e : Effect) (d : Did) → Explained m a e d → ((image : List ℕ) → d ≡ did-park i image → ⊥) →
    ((j : ℕ) (image : List ℕ) → d ≡ did-resume j image → image_from image ≡ i → image_number image ≡ n → ⊥) → held_for m.parks i ≡ n → held_for (perform m a.text e).machine.parks i ≡ n
held-step m a i n (refuse k) did_nothing was-refused f g h = h
held-step m a i n (put j _ size) (did-open _ _ _ _) (was-open _) f g h = h
held-step m a i n (crypt j k size) (did-crypt _ _ _) (was-crypt _ _) f g h = h
held-step m a i n (park j size) (did-park _ image) (was-park _ _ _ _) f g h = parked-other m.parks j i (λ e. f image (ap (λ (y : ℕ). did-park y image) (sym e))) ∙ h
held-step m a i n (resume j _ k size) (did-resume _ image) (was-resume _ q) f g h =
    taken-other m.parks (image_from image) i
    (λ e. g j image refl (sym e) (sym (holds-told m.parks (image_from image) (image_number image) q) ∙ ap (held_for m.parks) (sym e) ∙ h)) ∙ h
held-step m a i n (put j _ size) (did-close _) (was-close _) f g h = h
held-step m a i n (put j _ size) (did-load _ _ _) (was-load _ _ _) f g h = h
held-step m a i n (start j _ size) (did-start _ _) (was-start _ _) f g h = h
held-step m a i n (change j p _ size) (did-change _ _ _ _) (was-change _ _ _ _) f g h = h
held-step m a i n _ _ x f g h = elim x [ ]

held_after : (ys : List Made) (m : Machine) (i n : ℕ) → Runs m ys → AllLeave i n ys → held_for m.parks i ≡ n → held_for (machine_after m ys).parks i ≡ n
unfolding step
held_after [] m i n r l h = h
held_after (y ∷ ys) m i n r l h =
    held_after ys (step m y.call).machine i n r.1 l.1
    (held-step m y.call i n (decide (public m) y.call) (did y) (explained-at m y r.0) l.0.no-park l.0.no-resume h)

-- ---- a line's count

count-step : (m : Machine) (a : Call) (i : ℕ) (e : Effect) (d : Did) → Explained m a e d → Long m.parks → count_for (perform m a.text e).machine.parks i ≡ count_for m.parks i + park_on i d
count-step m a i (refuse k) did_nothing was-refused l = omega arith
count-step m a i (put j _ size) (did-open _ _ _ _) (was-open _) l = omega arith
count-step m a i (crypt j k size) (did-crypt _ _ _) (was-crypt _ _) l = omega arith
count-step m a i (park j size) (did-park _ image) (was-park n _ _ _) l = by (eqb j i) refl
  where
    by : (b : Bool) → eqb j i ≡ b → count_for (parked m.parks j) i ≡ count_for m.parks i + pick b 1 0
    by true e =
        let s = eqb-true j i e in
        let c = l.counts in
        let q = n.below in
        ap (count_for (parked m.parks j)) (sym s) ∙ now-counted m.parks j (omega (arith, c, q)) ∙ ap (λ (x : ℕ). count_for m.parks x + 1) s
    by false e = let o = counted-other m.parks j i (λ x. eqb-false j i e (sym x)) in omega (arith, o)
count-step m a i (resume j _ k size) (did-resume _ image) (was-resume _ _) l = taken-count m.parks (image_from image) i ∙ omega arith
count-step m a i (put j _ size) (did-close _) (was-close _) l = omega arith
count-step m a i (put j _ size) (did-load _ _ _) (was-load _ _ _) l = omega arith
count-step m a i (start j _ size) (did-start _ _) (was-start _ _) l = omega arith
count-step m a i (change j p _ size) (did-change _ _ _ _) (was-change _ _ _ _) l = omega arith
count-step m a i _ _ x l = elim x [ ]

count-after : (ys : List Made) (m : Machine) (i : ℕ) → Runs m ys → Long m.parks → count_for (machine_after m ys).parks i ≡ count_for m.parks i + parks_from i ys
unfolding step
count-after [] m i r l = omega arith
count-after (y ∷ ys) m i r l =
    let e = decide (public m) y.call in
    let here = count-step m y.call i e (did y) (explained-at m y r.0) l in
    let more = count-after ys (step m y.call).machine i r.1 (parks-step Long parked-long taken-long m y.call.text e l) in
    omega (arith, here, more)

-- ---- a resume that is read, on an idle line, with a whole image

resume-code : (m : Machine) (a : Call) (j : ℕ) → decode_of a.command ≡ Ok (Resume j) → (line_at m j).mode ≡ 0 → image_ok (image_line (image_in a.command)) ≡ true →
    from_ok (image_in a.command) ≡ true →
    (h : Bool) → holds m.parks (image_from (image_in a.command)) (image_number (image_in a.command)) ≡ h → (step m a).outcome.code ≡ pick h 0 14
unfolding step decide decided refuse_if view_of
resume-code m a j e free ok from h held =
    let v : is_idle (public m) j ≡ true = ap (λ (v : View). eqb v.mode 0) (view-get m.lines j) ∙ eq-eqb (line_at m j).mode 0 free in
    rw (e, v, ok, from, held) (by h)
  where
    by : (h : Bool) → (perform m a.text (refuse_if (not h) 14 (effect_of (Resume j) (public m) a))).outcome.code ≡ pick h 0 14
    by true = refl
    by false = refl

open-good : (l : MLine) → Good l → l.mode ≡ 1 → image_ok (shown l) ≡ true
unfolding shown open_ok
open-good l g e = both_left _ (change_ok l.cipher l.pos l.due l.waiting) (sym (open_is (shown l) e) ∙ good-ok l g)

-- ---- the list

module _ (xs : List Made) (is : xs ≡ machine_run fresh_machine (calls_of xs)) (bytes : AllBytes xs) where
  -- what a park writes: the image of its line, with its line and the number of the line's parks with it
  written : {before : List Made} {p : Made} → Stands before p xs → (i : ℕ) (image : List ℕ) → did p ≡ did-park i image → image ≡ image_of i (suc (parks_from i before)) (line_on (card_after fresh_card before) i)
  unfolding number_now
  written {before = before} s i image dp =
      let m = machine_after fresh_machine before in
      let k = place xs is bytes s in
      let w = told_at xs is bytes s (did-park i image) dp in
      let c = count-after before fresh_machine i k.so_far fresh-long in
      let fresh = fresh-count i in
      let n : count_for m.parks i ≡ parks_from i before = omega (arith, c, fresh) in
      w.is ∙ ap₂ (λ (x : ℕ) (l : Line). image_of i (suc x) l) n (sym (ap (λ (y : Seen). line_on y i) k.at.card ∙ seen_at m i))

  -- what an accepted park leaves: an image that is well formed, with its line and its number, which is given to its line and held of it
  record Left (before : List Made) (p : Made) (i : ℕ) (image : List ℕ) : Type 0 where
    pub below : i < 8
    pub whole : image_ok (image_line image) ≡ true
    pub from : image_from image ≡ i
    pub number : image_number image ≡ number_now (machine_after fresh_machine before).parks i
    pub here : held_for (machine_next before p).parks i ≡ image_number image
    pub given : Given (machine_next before p).parks i (image_number image)

  left : {before : List Made} {p : Made} → Stands before p xs → (i : ℕ) (image : List ℕ) → did p ≡ did-park i image → Left before p i image
  left {before = before} s i image dp =
      let m = machine_after fresh_machine before in
      let k = place xs is bytes s in
      let w = told_at xs is bytes s (did-park i image) dp in
      let l = line_at m i in
      let g = good-get k.at.good.lines i in
      let z = sized l g w.up w.none-due in
      let word = number_word m.parks i w.left in
      let a = w.below in
      let b : i < 2 ^ 8 = omega (arith, a) in
      let n : image_number image ≡ number_now m.parks i = ap image_number w.is ∙ number-back i (number_now m.parks i) b word (shown l) z in
      let c = k.at.good.long.counts in
      let h = k.at.good.long.held in
      record {
        below = a;
        whole = ap image_ok (ap image_line w.is ∙ image-back i (number_now m.parks i) b word (shown l) z) ∙ open-good l g w.up;
        from = ap image_from w.is ∙ from_back i (number_now m.parks i) b word (shown l) z;
        number = n;
        here = ap (λ (y : Parks). held_for y i) w.counted ∙ now-held m.parks i (omega (arith, a, h)) ∙ sym n;
        given = subst (λ (y : Parks). Given y i (image_number image)) (sym w.counted) (subst (Given (parked m.parks i) i) (sym n) (now-given m.parks i (omega (arith, a, c))));
      }

  -- an image that a park wrote and that is brought back is answered by whether its number is held of its line
  answered : {before sofar : List Made} {p x : Made} → Stands sofar x xs → (i j : ℕ) (image : List ℕ) → Left before p i image → Brings j image sofar x →
      (h : Bool) → holds (machine_after fresh_machine sofar).parks i (image_number image) ≡ h → x.code ≡ pick h 0 14
  unfolding shown
  answered {sofar = sofar} {x = x} s i j image l b h held =
      let m = machine_after fresh_machine sofar in
      let k = place xs is bytes s in
      let free : (line_at m j).mode ≡ 0 = ap (λ (y : Line). y.mode) (sym (seen_at m j)) ∙ ap (λ (c : Seen). (line_on c j).mode) (sym k.at.card) ∙ b.idle-line in
      let below = l.below in
      ap (λ (y : Made). y.code) k.run
      ∙ resume-code m x.call j b.read_as free (ap (λ (y : List ℕ). image_ok (image_line y)) b.image-is ∙ l.whole)
      (ap from_ok b.image-is ∙ ap (λ (y : ℕ). ltb y 8) l.from ∙ lt-ltb i 8 below)
      h (ap (λ (y : List ℕ). holds m.parks (image_from y) (image_number y)) b.image-is ∙ ap (λ (y : ℕ). holds m.parks y (image_number image)) l.from ∙ held)

  accepted-at : {before sofar : List Made} {p x : Made} → Stands sofar x xs → (t : Stands before p sofar) → (i j : ℕ) (image : List ℕ) → did p ≡ did-park i image →
      AllLeave i (image_number image) t.after → Brings j image sofar x → x.code ≡ 0
  accepted-at {before = before} {sofar = sofar} {p = p} s t i j image dp leave b =
      let m = machine_after fresh_machine sofar in
      let l = left (stands-in s t) i image dp in
      let there = ap (λ (y : Machine). held_for y.parks i) (later t) ∙ held_after t.after (machine_next before p) i (image_number image) (runs-since xs is bytes s t) leave l.here in
      answered s i j image l b true (held-holds m.parks i (image_number image) l.given.some there)

  replaced-at : {before between sofar : List Made} {p y x : Made} → Stands sofar x xs → Stands between y sofar → Stands before p between → (i j : ℕ) (image image' : List ℕ) →
      did p ≡ did-park i image → did y ≡ did-park i image' → Brings j image sofar x → x.code ≡ 14
  replaced-at {between = between} {sofar = sofar} s u t i j image image' dp dy b =
      let n = image_number image in
      let l = left (stands-in (stands-in s u) t) i image dp in
      let given = parks-since (λ q. Given q i n) (λ q k. parked-given q k i n) (λ q k. taken-given q k i n) t l.given in
      let w = told_at xs is bytes (stands-in s u) (did-park i image') dy in
      let a = l.below in
      let h = (place xs is bytes (stands-in s u)).at.good.long.held in
      let gone = spent-since i n u (subst (λ (c : Parks). Spent c i n) (sym w.counted) (replaced-spent (machine_after fresh_machine between).parks i n (omega (arith, a, h)) given)) in
      answered s i j image l b false (spent-refused (machine_after fresh_machine sofar).parks i n gone)

  taken_at : {before between sofar : List Made} {p y x : Made} → Stands sofar x xs → Stands between y sofar → Stands before p between → (i j k : ℕ) (image image' : List ℕ) →
      did p ≡ did-park i image → did y ≡ did-resume k image' → image_from image' ≡ i → image_number image' ≡ image_number image → Brings j image sofar x → x.code ≡ 14
  taken_at {sofar = sofar} s u t i j k image image' dp dy from same b =
      let p = (machine_after fresh_machine sofar).parks in
      let l = left (stands-in (stands-in s u) t) i image dp in
      answered s i j image l b false
      (ap₂ (holds p) (sym from) (sym same) ∙ spent-refused p (image_from image') (image_number image') (spent-at xs is bytes s u k image' dy))

  numbered-at : {before : List Made} {p : Made} → Stands before p xs → (i : ℕ) (image : List ℕ) → did p ≡ did-park i image → (image_from image ≡ i) × (image_number image ≡ suc (parks_from i before))
  unfolding number_now
  numbered-at {before = before} s i image dp =
      let l = left s i image dp in
      let c = count-after before fresh_machine i (place xs is bytes s).so_far fresh-long in
      let fresh = fresh-count i in
      (l.from, l.number ∙ ap suc (c ∙ (let e : count_for fresh_machine.parks i + parks_from i before ≡ parks_from i before = omega (arith, fresh) in e)))

  pub machine-parked-calls : ParkedCalls xs
  machine-parked-calls = record { numbered = numbered-at; accepted = accepted-at; replaced = replaced-at; taken-before = taken_at }

-- ---- two lists

pub machine-same-images : (xs ys : List Made) → xs ≡ machine_run fresh_machine (calls_of xs) → ys ≡ machine_run fresh_machine (calls_of ys) → AllBytes xs → AllBytes ys → SameImages xs ys
unfolding image_of
machine-same-images xs ys is is' bytes bytes' =
    record {
      same-image =
          λ s t i image image' dp dq e.
          written xs is bytes s i image dp
          ∙ (λ j. image_of i (suc (e.count j)) (plain_line 1 (e.cipher j) (e.position j) (e.state j)))
          ∙ sym (written ys is' bytes' t i image' dq);
    }
