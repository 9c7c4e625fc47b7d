-- Demand 3 of every list that is the machine's: what holds of the lines and of their logs is carried along the list call by call, and each claim is read off at its place in the list.
-- Assumes nothing.
use mathlib.Core.Path.{◌≡◌, refl, ap, ap₂, sym, ◌∙◌, subst}
use mathlib.Core.Bool.{Bool, true, false}
use mathlib.Core.List.{List, [], ◌∷◌, ◌++◌, append_assoc}
use Prim.Native.Nat.{ℕ, zero, suc, ◌+◌, ◌<◌}
use native.Mathlib.Omega.{arith}
use lib.Dec.{eqb, leb}
use lib.ListN.{length, get_or, set, length-set, replicate}
use lib.Seq.{length-take-le, get_or-set_same, get_or-set_other}
use borrow.Author.Tests.{eq-eqb, ne_eqb, leb-true}
use Rattle.words.specs.Tests.{pick}
use Rattle.words.specs.Lists.{All, Byte}
use Rattle.ciphers.specs.Table.{cipher_at}
use Rattle.ciphers.proofs.Kept.{start-load}
use Rattle.words.proofs.Tests.{both_right}
use Rattle.machine.specs.Machine.{Line, MLine, Machine, Seen, line_at, zeros, idle, plain_line, unit_at, state_of, byte_of, shown, based, moved, changed, opened, loaded_line, started_line, plain, iv_for, stream_of, image_of, image_line, image_from, image_number, Call, Effect, refuse, put, crypt, park, resume, change, start, public, decide, perform, step, seen, shows, fresh_machine, fresh_card}
use Rattle.machine.specs.Parks.{Parks, no_more, number_now, parked, holds, taken}
use Rattle.machine.specs.Calls.{Made, made_of, machine_run, calls_of, card_after, line_on, CallBytes, AllBytes}
use Rattle.lists.specs.Logs.{Did, did_nothing, did-open, did-crypt, did-park, did-resume, did-close, did-change, did-load, did-start, did, Log, begun, noted, log_after, log_of, standing}
use Rattle.lists.specs.OneStream.{Streamed, GoesOn, On, AllOff, Kept, Stands, OneStream}
use Rattle.machine.proofs.Lines.{opened-shown, Waits, none-waits, one-waits, Good, good-idle, good-loaded, good-open, good-behind, shown-based, state-fit}
use Rattle.machine.proofs.Simulation.{GoodCard, good-get, step-good, fresh-good, fresh-seen}
use Rattle.machine.proofs.Parks.{number_word, Spent, spent-refused, taken-spent, taken-keeps, parked-keeps}
use Rattle.machine.proofs.Fields.{Sized}
use Rattle.lists.proofs.Images.{image-goes-on}
use Rattle.lists.proofs.Explained.{Names, Explained, was-refused, was-open, was-crypt, was-park, was-resume, was-close, was-change, was-load, was-start, explained}
use Rattle.lists.proofs.Streams.{bare, Held, held-here, standing-begun, idle-held, effect-held, seen_at, held-streamed}

-- ---- a list that is the machine's, call by call

abbrev pub Runs : Machine → List Made → Type 0
Runs m [] = Unit {0}
Runs m (x ∷ xs) = (x ≡ made_of x.call (shows (step m x.call))) × Runs (step m x.call).machine xs

abbrev pub machine_after : Machine → List Made → Machine
machine_after m [] = m
machine_after m (x ∷ xs) = machine_after (step m x.call).machine xs

abbrev head_or : Made → List Made → Made
head_or d [] = d
head_or d (x ∷ xs) = x

abbrev tail : List Made → List Made
tail [] = []
tail (x ∷ xs) = xs

pub runs : (xs : List Made) (m : Machine) → xs ≡ machine_run m (calls_of xs) → Runs m xs
runs [] m e = tt
runs (x ∷ xs) m e = (ap (head_or x) e, runs xs (step m x.call).machine (ap tail e))

runs-front : (xs ys : List Made) (m : Machine) → Runs m (xs ++ ys) → Runs m xs
runs-front [] ys m r = tt
runs-front (x ∷ xs) ys m r = (r.0, runs-front xs ys (step m x.call).machine r.1)

runs-back : (xs ys : List Made) (m : Machine) → Runs m (xs ++ ys) → Runs (machine_after m xs) ys
runs-back [] ys m r = r
runs-back (x ∷ xs) ys m r = runs-back xs ys (step m x.call).machine r.1

bytes-front : (xs ys : List Made) → AllBytes (xs ++ ys) → AllBytes xs
bytes-front [] ys b = tt
bytes-front (x ∷ xs) ys b = (b.0, bytes-front xs ys b.1)

pub log-append : (i : ℕ) (g : Log) (xs ys : List Made) → log_after i g (xs ++ ys) ≡ log_after i (log_after i g xs) ys
log-append i g [] ys = refl
log-append i g (x ∷ xs) ys = log-append i (noted i g (did x)) xs ys

-- a log after one call more, by what the call did, and what it does on its own line
pub log-last : (i : ℕ) (xs : List Made) (x : Made) {d : Did} → did x ≡ d → log_of i (xs ++ (x ∷ [])) ≡ noted i (log_of i xs) d
log-last i xs x e = log-append i (begun idle) xs (x ∷ []) ∙ ap (noted i (log_of i xs)) e

pub on-its-line : (i : ℕ) (g h : Log) → pick (eqb i i) g h ≡ g
on-its-line i g h = ap (λ (b : Bool). pick b g h) (eq-eqb i i refl)

-- ---- the invariant

pub record Reached (m : Machine) (c : Seen) (g : ℕ → Log) : Type 0 where
  pub good : GoodCard m
  pub eight : length m.lines ≡ 8
  pub card : c ≡ seen m
  pub held : (i : ℕ) → Held (line_at m i) (g i)

perform-eight : (m : Machine) (text : List ℕ) (e : Effect) → length (perform m text e).machine.lines ≡ length m.lines
perform-eight m text (refuse k) = refl
perform-eight m text (put i l size) = length-set m.lines i l
perform-eight m text (crypt i n size) = length-set m.lines i _
perform-eight m text (park i size) = length-set m.lines i idle
perform-eight m text (resume i l k size) = length-set m.lines i l
perform-eight m text (change i p s size) = length-set m.lines i _
perform-eight m text (start i iv size) = length-set m.lines i _

-- what a call of the list did, from the machine at its place
pub explained-at : (m : Machine) (x : Made) → x ≡ made_of x.call (shows (step m x.call)) → Explained m x.call (decide (public m) x.call) (did x)
explained-at m x e = subst (λ (y : Made). Explained m x.call (decide (public m) x.call) (did y)) (sym e) (explained m x.call)

pub reached : (xs : List Made) (m : Machine) (c : Seen) (g : ℕ → Log) → Reached m c g → Runs m xs → AllBytes xs →
    Reached (machine_after m xs) (card_after c xs) (λ i. log_after i (g i) xs)
unfolding step
reached [] m c g r h b = r
reached (x ∷ xs) m c g r h b =
    reached xs (step m x.call).machine x.card (λ i. noted i (g i) (did x))
    (record {
      good = step-good m r.good x.call b.0;
      eight = perform-eight m x.call.text (decide (public m) x.call) ∙ r.eight;
      card = ap (λ (y : Made). y.card) h.0;
      held = λ i. effect-held m r.eight x.call i (g i) (r.held i) (decide (public m) x.call) (did x) (explained-at m x h.0);
    })
    h.1 b.1

pub reached-fresh : Reached fresh_machine fresh_card (λ i. begun idle)
reached-fresh = record { good = fresh-good; eight = refl; card = sym fresh-seen; held = λ i. subst (λ (l : MLine). Held l (begun idle)) (sym (none 8 i)) idle-held }
  where
    none : (k i : ℕ) → get_or (replicate k idle) i idle ≡ idle
    none zero i = refl
    none (suc k) zero = refl
    none (suc k) (suc i) = none k i

-- ---- an open line is read back from its image

clear : (l : MLine) → Waits l → l.due ≡ 0 → l.waiting ≡ zeros
clear l (none-waits d z) e = z
clear l (one-waits a u f) e = absurd (omega (arith, a, e))

pub sized : (l : MLine) → Good l → l.mode ≡ 1 → l.due ≡ 0 → Sized (shown l)
unfolding shown
sized l good-idle e d = absurd (let z : ◌≡◌ {A = ℕ} 0 1 = e in omega arith)
sized l (good-loaded g w) e d = absurd (let z : ◌≡◌ {A = ℕ} 2 1 = e in omega (arith, z))
sized l (good-open m c p b f w) e d =
    let s = state-fit l (unit_at l) f in
    let k = leb-true l.cipher 6 (both_right (leb 1 l.cipher) (leb l.cipher 6) c) in
    record { up = e; cipher = omega (arith, k); pos = omega (arith, p); full = s.full; words = s.words; none-due = d; none-waits = clear l w d }

-- ---- one call, by what it did

pub record ParkWrote (m m' : Machine) (i : ℕ) (image : List ℕ) : Type 0 where
  pub below : i < 8
  pub counted : m'.parks ≡ parked m.parks i
  pub up : (line_at m i).mode ≡ 1
  pub none-due : (line_at m i).due ≡ 0
  pub left : no_more m.parks i ≡ false
  pub is : image ≡ image_of i (number_now m.parks i) (shown (line_at m i))

pub record ResumeTook (m m' : Machine) (i : ℕ) (image : List ℕ) : Type 0 where
  pub line : line_at m' i ≡ based (image_line image)
  pub held : holds m.parks (image_from image) (image_number image) ≡ true
  pub took : m'.parks ≡ taken m.parks (image_from image)

pub record LoadKept (a : Call) (m' : Machine) (i c : ℕ) (key : List ℕ) : Type 0 where
  pub line : line_at m' i ≡ loaded_line c key
  pub bytes : All Byte a.tray → All Byte key
  pub full : length key ≡ (cipher_at c).key

-- what a call did says of the line that it names, after the call; a load, of its key; a park, of what it wrote; a resume, of the number that it took up
abbrev pub Tells : Call → Machine → Machine → Did → Type 0
Tells a m m' did_nothing = Unit {0}
Tells a m m' (did-open i c key iv) = line_at m' i ≡ opened c key iv
Tells a m m' (did-crypt i input output) = line_at m' i ≡ moved (line_at m i) (length input)
Tells a m m' (did-park i image) = ParkWrote m m' i image
Tells a m m' (did-resume i image) = ResumeTook m m' i image
Tells a m m' (did-close i) = line_at m' i ≡ idle
Tells a m m' (did-load i c key) = LoadKept a m' i c key
Tells a m m' (did-start i iv) = line_at m' i ≡ started_line (line_at m i) (iv_for (line_at m i).cipher iv)
Tells a m m' (did-change i p key iv) = line_at m' i ≡ changed (line_at m i) p (stream_of (line_at m i).cipher key iv)

module _ (m : Machine) (eight : length m.lines ≡ 8) (a : Call) where
  set_at : (j : ℕ) (l : MLine) → Names a j → get_or (set m.lines j l) j idle ≡ l
  set_at j l n = let b = n.below in get_or-set_same m.lines j l idle (omega arith)

  tells : (e : Effect) (d : Did) → Explained m a e d → Tells a m (perform m a.text e).machine d
  tells (refuse k) did_nothing was-refused = tt
  tells (put j _ size) (did-open _ _ _ _) (was-open n) = set_at j _ n
  tells (crypt j k size) (did-crypt _ _ _) (was-crypt n h) = set_at j _ n ∙ ap (moved (line_at m j)) (sym (length-take-le k a.text h))
  tells (park j size) (did-park _ _) (was-park n h d z) = record { below = n.below; counted = refl; up = h; none-due = d; left = z; is = refl }
  tells (resume j _ k size) (did-resume _ _) (was-resume n h) = record { line = set_at j _ n; held = h; took = refl }
  tells (put j _ size) (did-close _) (was-close n) = set_at j idle n
  tells (put j _ size) (did-load _ _ _) (was-load n f k) = record { line = set_at j _ n; bytes = f; full = k }
  tells (start j _ size) (did-start _ _) (was-start n up) = set_at j _ n
  tells (change j p _ size) (did-change _ _ _ _) (was-change n up d le) = set_at j _ n
  tells _ _ x = elim x [ ]

  -- by what it did, known by an equation
  told : (e : Effect) (d : Did) → Explained m a e d → (d' : Did) → d ≡ d' → Tells a m (perform m a.text e).machine d'
  told e d x d' q = subst (Tells a m (perform m a.text e).machine) q (tells e d x)

-- a call that is not an accepted one on line i
module _ (m : Machine) (a : Call) (i : ℕ) where
  abbrev Apart : Effect → Type 0
  Apart e = (perform m a.text e).outcome.code ≡ 0 → get_or a.command 1 0 ≡ i → ⊥

  kept : (j : ℕ) (l : MLine) → Names a j → (get_or a.command 1 0 ≡ i → ⊥) → get_or (set m.lines j l) i idle ≡ line_at m i
  kept j l n f = get_or-set_other m.lines j i l idle (λ e. f (sym (e ∙ n.named)))

  no_note : (j : ℕ) (g' g : Log) → Names a j → (get_or a.command 1 0 ≡ i → ⊥) → pick (eqb j i) g' g ≡ g
  no_note j g' g n f = ap (λ (b : Bool). pick b g' g) (ne_eqb j i (λ e. f (sym n.named ∙ e)))

  other-line : (e : Effect) (d : Did) → Explained m a e d → Apart e → line_at (perform m a.text e).machine i ≡ line_at m i
  other-line (refuse k) did_nothing was-refused f = refl
  other-line (put j _ size) (did-open _ _ _ _) (was-open n) f = kept j _ n (f refl)
  other-line (crypt j k size) (did-crypt _ _ _) (was-crypt n h) f = kept j _ n (f refl)
  other-line (park j size) (did-park _ _) (was-park n h d z) f = kept j idle n (f refl)
  other-line (resume j _ k size) (did-resume _ _) (was-resume n h) f = kept j _ n (f refl)
  other-line (put j _ size) (did-close _) (was-close n) f = kept j idle n (f refl)
  other-line (put j _ size) (did-load _ _ _) (was-load n g k) f = kept j _ n (f refl)
  other-line (start j _ size) (did-start _ _) (was-start n up) f = kept j _ n (f refl)
  other-line (change j p _ size) (did-change _ _ _ _) (was-change n up d le) f = kept j _ n (f refl)
  other-line _ _ x f = elim x [ ]

  other-log : (e : Effect) (d : Did) → Explained m a e d → Apart e → (g : Log) → noted i g d ≡ g
  other-log (refuse k) did_nothing was-refused f g = refl
  other-log (put j _ size) (did-open _ _ _ _) (was-open n) f g = no_note j _ g n (f refl)
  other-log (crypt j k size) (did-crypt _ _ _) (was-crypt n h) f g = no_note j _ g n (f refl)
  other-log (park j size) (did-park _ _) (was-park n h d z) f g = no_note j _ g n (f refl)
  other-log (resume j _ k size) (did-resume _ _) (was-resume n h) f g = no_note j _ g n (f refl)
  other-log (put j _ size) (did-close _) (was-close n) f g = no_note j _ g n (f refl)
  other-log (put j _ size) (did-load _ _ _) (was-load n b k) f g = no_note j _ g n (f refl)
  other-log (start j _ size) (did-start _ _) (was-start n up) f g = no_note j _ g n (f refl)
  other-log (change j p _ size) (did-change _ _ _ _) (was-change n up d le) f g = no_note j _ g n (f refl)
  other-log _ _ x f g = elim x [ ]

-- ---- two calls of a list

-- a call of a part of a list
pub stands-in : {xs before sofar : List Made} {p x : Made} → Stands sofar x xs → Stands before p sofar → Stands before p xs
stands-in {before = before} {p = p} {x = x} s t =
    record {
      after = t.after ++ (x ∷ s.after);
      is = s.is ∙ ap (λ (l : List Made). l ++ (x ∷ s.after)) t.is ∙ append_assoc before (p ∷ t.after) (x ∷ s.after);
    }

-- the machine after a call
abbrev pub machine_next : List Made → Made → Machine
machine_next before x = (step (machine_after fresh_machine before) x.call).machine

machine-append : (m : Machine) (xs ys : List Made) → machine_after m (xs ++ ys) ≡ machine_after (machine_after m xs) ys
machine-append m [] ys = refl
machine-append m (x ∷ xs) ys = machine-append (step m x.call).machine xs ys

pub later : {before sofar : List Made} {p : Made} → (t : Stands before p sofar) → machine_after fresh_machine sofar ≡ machine_after (machine_next before p) t.after
later {before = before} {p = p} t = ap (machine_after fresh_machine) t.is ∙ machine-append fresh_machine before (p ∷ t.after)

-- what every park and every resume keeps of the parks is kept from one call to another
module _ (P : Parks → Type 0) (by-park : (p : Parks) (i : ℕ) → P p → P (parked p i)) (by-resume : (p : Parks) (k : ℕ) → P p → P (taken p k)) where
  pub parks-step : (m : Machine) (text : List ℕ) (e : Effect) → P m.parks → P (perform m text e).machine.parks
  parks-step m text (refuse _) h = h
  parks-step m text (put i l size) h = h
  parks-step m text (crypt i n size) h = h
  parks-step m text (park i size) h = by-park m.parks i h
  parks-step m text (resume i l k size) h = by-resume m.parks k h
  parks-step m text (change i p s size) h = h
  parks-step m text (start i iv size) h = h

  parks-after : (xs : List Made) (m : Machine) → P m.parks → P (machine_after m xs).parks
  unfolding step
  parks-after [] m h = h
  parks-after (x ∷ xs) m h = parks-after xs (step m x.call).machine (parks-step m x.call.text (decide (public m) x.call) h)

  pub parks-since : {before sofar : List Made} {p : Made} → (t : Stands before p sofar) → P (machine_next before p).parks → P (machine_after fresh_machine sofar).parks
  parks-since {before = before} {p = p} t h = subst (λ (m : Machine). P m.parks) (sym (later t)) (parks-after t.after (machine_next before p) h)

pub spent-since : {before sofar : List Made} {p : Made} (i k : ℕ) → (t : Stands before p sofar) → Spent (machine_next before p).parks i k → Spent (machine_after fresh_machine sofar).parks i k
spent-since i k t h = parks-since (λ q. Spent q i k) (λ q j. parked-keeps q j i k) (λ q j. taken-keeps q j i k) t h

-- a line on which no call between two of them was accepted is as it was
line_kept : (i : ℕ) (ys : List Made) (m : Machine) → Runs m ys → AllOff i ys → line_at (machine_after m ys) i ≡ line_at m i
unfolding step
line_kept i [] m r o = refl
line_kept i (y ∷ ys) m r o =
    line_kept i ys (step m y.call).machine r.1 o.1
    ∙ other-line m y.call i (decide (public m) y.call) (did y) (explained-at m y r.0) (λ z n. o.0 (record { accepted = ap (λ (x : Made). x.code) r.0 ∙ z; line-is = n }))

bytes-at : (before : List Made) (x : Made) (after : List Made) → AllBytes (before ++ (x ∷ after)) → CallBytes x.call
bytes-at [] x after b = b.0
bytes-at (y ∷ before) x after b = bytes-at before x after b.1

-- a loaded line that is started is opened with the key that was loaded
pub loaded-starts : (c : ℕ) (key iv : List ℕ) → All Byte key → length key ≡ (cipher_at c).key → started_line (loaded_line c key) (iv_for c iv) ≡ opened c key (iv_for c iv)
unfolding started_line loaded_line opened
loaded-starts c key iv b e = ap (λ (s : List ℕ). plain 1 c s 0 0) (start-load c key (iv_for c iv) b e)

no-more : true ≡ false → ⊥
no-more e = let z : ◌≡◌ {A = ℕ} 0 1 = cc in omega (arith, z)

-- ---- the list

module _ (xs : List Made) (is : xs ≡ machine_run fresh_machine (calls_of xs)) (bytes : AllBytes xs) where
  -- the place of a call in the list
  pub record Place (before : List Made) (x : Made) : Type 0 where
    pub so_far : Runs fresh_machine before
    pub at : Reached (machine_after fresh_machine before) (card_after fresh_card before) (λ i. log_of i before)
    pub run : x ≡ made_of x.call (shows (step (machine_after fresh_machine before) x.call))
    pub did-is : Explained (machine_after fresh_machine before) x.call (decide (public (machine_after fresh_machine before)) x.call) (did x)

  pub place : {before : List Made} {x : Made} → Stands before x xs → Place before x
  place {before = before} {x = x} s =
      let after = s.after in
      let r = subst (Runs fresh_machine) s.is (runs xs fresh_machine is) in
      let b = subst AllBytes s.is bytes in
      let h = runs-back before (x ∷ after) fresh_machine r in
      let f = runs-front before (x ∷ after) fresh_machine r in
      record {
        so_far = f;
        at = reached before fresh_machine fresh_card (λ i. begun idle) reached-fresh f (bytes-front before (x ∷ after) b);
        run = h.0;
        did-is = explained-at (machine_after fresh_machine before) x h.0;
      }

  -- the calls between two of them are the machine's
  pub runs-since : {before sofar : List Made} {p x : Made} → Stands sofar x xs → (t : Stands before p sofar) → Runs (machine_next before p) t.after
  unfolding stands-in
  runs-since {before = before} {p = p} {x = x} s t =
      let w = stands-in s t in
      runs-front t.after (x ∷ s.after) (machine_next before p) (runs-back before (p ∷ w.after) fresh_machine (subst (Runs fresh_machine) w.is (runs xs fresh_machine is))).1

  -- what it did tells
  pub told_at : {before : List Made} {x : Made} → Stands before x xs → (d : Did) → did x ≡ d → Tells x.call (machine_after fresh_machine before) (machine_next before x) d
  unfolding step
  told_at {before = before} {x = x} s d dx = let k = place s in told (machine_after fresh_machine before) k.at.eight x.call _ (did x) k.did-is d dx

  -- the line on the card after a call
  pub line_after : (before : List Made) (x : Made) → Place before x → (i : ℕ) → line_on x.card i ≡ shown (line_at (step (machine_after fresh_machine before) x.call).machine i)
  line_after before x k i = ap (λ (y : Made). line_on y.card i) k.run ∙ seen_at (step (machine_after fresh_machine before) x.call).machine i

  streams-at : (i : ℕ) → Streamed (line_on (card_after fresh_card xs) i) (log_of i xs)
  streams-at i =
      let r = reached xs fresh_machine fresh_card (λ i. begun idle) reached-fresh (runs xs fresh_machine is) bytes in
      subst (λ (l : Line). Streamed l (log_of i xs)) (sym (ap (λ (c : Seen). line_on c i) r.card ∙ seen_at (machine_after fresh_machine xs) i))
      (held-streamed (line_at (machine_after fresh_machine xs) i) (log_of i xs) (r.held i))

  from-key-at : {before : List Made} {x : Made} → Stands before x xs → (i c : ℕ) (key iv : List ℕ) → did x ≡ did-open i c key iv →
      line_on x.card i ≡ plain_line 1 c 0 ((cipher_at c).init key iv)
  unfolding step
  from-key-at {before = before} {x = x} s i c key iv dx =
      let k = place s in
      line_after before x k i ∙ ap shown (told_at s (did-open i c key iv) dx) ∙ opened-shown c key iv

  from-load-at : {before sofar : List Made} {p x : Made} → Stands sofar x xs → (t : Stands before p sofar) → (i c : ℕ) (key iv : List ℕ) → did p ≡ did-load i c key → did x ≡ did-start i iv →
      AllOff i t.after → line_on x.card i ≡ plain_line 1 c 0 ((cipher_at c).init key (iv_for c iv))
  unfolding step stands-in loaded_line
  from-load-at {before = before} {sofar = sofar} {p = p} {x = x} s t i c key iv dp dx off =
      let w = stands-in s t in
      let k = told_at w (did-load i c key) dp in
      let b = k.bytes (bytes-at before p w.after (subst AllBytes w.is bytes)).tray in
      let l : line_at (machine_after fresh_machine sofar) i ≡ loaded_line c key =
      ap (λ (m : Machine). line_at m i) (later t) ∙ line_kept i t.after (machine_next before p) (runs-since s t) off ∙ k.line in
      line_after sofar x (place s) i
      ∙ ap shown (told_at s (did-start i iv) dx ∙ ap (λ (y : MLine). started_line y (iv_for y.cipher iv)) l ∙ loaded-starts c key iv b k.full)
      ∙ opened-shown c key (iv_for c iv)

  from-image-at : {before : List Made} {x : Made} → Stands before x xs → (j : ℕ) (image : List ℕ) → did x ≡ did-resume j image →
      line_on x.card j ≡ image_line image
  unfolding step
  from-image-at {before = before} {x = x} s j image dx =
      let k = place s in
      line_after before x k j ∙ ap shown (told_at s (did-resume j image) dx).line ∙ shown-based (image_line image)

  goes-on-at : {before sofar : List Made} {p x : Made} → Stands sofar x xs → Stands before p sofar → (i j : ℕ) (image : List ℕ) →
      did p ≡ did-park i image → did x ≡ did-resume j image →
      GoesOn (standing (log_of i before)) (standing (log_of j (sofar ++ (x ∷ []))))
  unfolding byte_of state_of
  goes-on-at {before = before} {sofar = sofar} {x = x} s t i j image dp dx =
      let m = machine_after fresh_machine before in
      let k = place (stands-in s t) in
      let w = told_at (stands-in s t) (did-park i image) dp in
      let l = line_at m i in
      let h = good-get k.at.good.lines i in
      let g = image-goes-on l (good-behind l h) (sized l h w.up w.none-due) i (number_now m.parks i) (let b = w.below in omega (arith, b)) (number_word m.parks i w.left) image w.is in
      let there : standing (log_of j (sofar ++ (x ∷ []))) ≡ based (image_line image) = ap standing (log-last j sofar x dx ∙ on-its-line j _ _) ∙ standing-begun (based (image_line image)) in
      let g' : GoesOn (bare l) (based (image_line image)) = record { mode = g.mode; cipher = g.cipher; position = g.position; bytes = g.bytes; states = g.states } in
      subst (GoesOn (standing (log_of i before))) (sym there) (subst (λ (y : MLine). GoesOn y (based (image_line image))) (sym (held-here l (log_of i before) (k.at.held i))) g')

  -- a number that was taken up is spent
  pub spent-at : {before sofar : List Made} {p x : Made} → Stands sofar x xs → (t : Stands before p sofar) (i : ℕ) (image : List ℕ) → did p ≡ did-resume i image →
      Spent (machine_after fresh_machine sofar).parks (image_from image) (image_number image)
  spent-at {before = before} s t i image dp =
      let w = told_at (stands-in s t) (did-resume i image) dp in
      let k = (place (stands-in s t)).at.good in
      spent-since (image_from image) (image_number image) t
      (subst (λ (y : Parks). Spent y (image_from image) (image_number image)) (sym w.took)
      (taken-spent (machine_after fresh_machine before).parks (image_from image) (image_number image) k.long k.parks w.held))

  once-at : {before sofar : List Made} {p x : Made} → Stands sofar x xs → Stands before p sofar → (i j : ℕ) (image image' : List ℕ) →
      did p ≡ did-resume i image → did x ≡ did-resume j image' → image_from image ≡ image_from image' → image_number image ≡ image_number image' → ⊥
  once-at {sofar = sofar} s t i j image image' dp dx line number =
      let p = (machine_after fresh_machine sofar).parks in
      no-more (sym (ap₂ (holds p) line number ∙ (told_at s (did-resume j image') dx).held) ∙ spent-refused p (image_from image) (image_number image) (spent-at s t i image dp))

  others-at : {before : List Made} {x : Made} → Stands before x xs → (i : ℕ) → (On i x → ⊥) → Kept i before x
  unfolding step
  others-at {before = before} {x = x} s i apart =
      let m = machine_after fresh_machine before in
      let k = place s in
      let f : (step m x.call).outcome.code ≡ 0 → get_or x.call.command 1 0 ≡ i → ⊥ =
      λ z n. apart (record { accepted = ap (λ (y : Made). y.code) k.run ∙ z; line-is = n }) in
      record {
        line-is =
            line_after before x k i ∙ ap shown (other-line m x.call i _ (did x) k.did-is f)
            ∙ sym (ap (λ (c : Seen). line_on c i) k.at.card ∙ seen_at m i);
        log_is = log-append i (begun idle) before (x ∷ []) ∙ other-log m x.call i _ (did x) k.did-is f (log_of i before);
      }

  pub machine-one-stream : OneStream xs
  machine-one-stream =
      record { machine-is = is; streams = streams-at; from_key = from-key-at; from-load = from-load-at; from-image = from-image-at; goes_on = goes-on-at; once = once-at; others = others-at }
