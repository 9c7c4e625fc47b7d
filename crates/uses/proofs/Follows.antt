-- The notes tell the truth: on each open line the bytes to come are those of the streams in its log, from where the log stands on; a loaded line's key is that of its last load; and each image that a
-- park wrote and whose number is held goes on with the bytes that are noted of its line. A call keeps this, a resume where it brings an image that a park wrote.
-- Assumes nothing.
use Prim.Native.Nat.{ℕ, ◌+◌, ◌-◌, ◌^◌, ◌<◌}
use mathlib.Core.Path.{◌≡◌, refl, ap, ap₂, sym, ◌∙◌, subst}
use mathlib.Core.Bool.{Bool, true, false}
use mathlib.Core.List.{List, [], ◌∷◌, ◌++◌}
use native.Mathlib.Omega.{arith}
use lib.Dec.{eqb, ltb}
use lib.ListN.{length, get_or, set, length-append}
use lib.Seq.{get_or-set_same}
use borrow.Author.Tests.{eqb-true, eqb-false, ltb-true, ltb-false}
use Rattle.words.specs.Lists.{All, Byte}
use Rattle.words.specs.Tests.{pick}
use Rattle.ciphers.specs.Table.{cipher_at}
use Rattle.machine.specs.Machine.{MLine, Machine, line_at, plain, idle, byte_of, along, renewed, changed, opened, loaded_line, started_line, based, shown, key_for, iv_for, stream_of, image_of, image_line, image_from, image_number, Call, Effect, refuse, put, crypt, park, resume, change, start, perform}
use Rattle.machine.specs.Parks.{Parks, held_for, no_more, number_now, parked, taken}
use Rattle.machine.specs.Calls.{CallBytes}
use Rattle.lists.specs.Logs.{Did, did_nothing, did-open, did-crypt, did-park, did-resume, did-close, did-change, did-load, did-start, Stream, Log, begun, joined, place_at, standing, new_stream, noted}
use Rattle.lists.specs.OneStream.{GoesOn}
use Rattle.machine.proofs.Moves.{moved-bare, moved-mode, byte_here}
use Rattle.machine.proofs.Lines.{good-behind}
use Rattle.machine.proofs.Fields.{from_back, number-back}
use Rattle.machine.proofs.Parks.{Given, parked-given, taken-given, replaced-spent, now-given, holds-told, parked-other, taken-other, number_word}
use Rattle.machine.proofs.Simulation.{GoodCard, good-get, Fair, fair-crypt}
use Rattle.lists.proofs.Images.{image-goes-on}
use Rattle.lists.proofs.Explained.{Names, Explained, was-refused, was-open, was-crypt, was-park, was-resume, was-close, was-change, was-load, was-start}
use Rattle.lists.proofs.Streams.{bare, Held, place-yes, place-no, place-begun, standing-begun}
use Rattle.lists.proofs.OneStream.{sized, loaded-starts}
use Rattle.uses.specs.Uses.{Origin, KeyByte, value_of, bytes_from, changed_at, Notes, change_origin, start_origin, for_line, note_call, In}
use Rattle.uses.proofs.Twice.{Either, in-first, in-second, either-in, only}
use Rattle.uses.proofs.Apart.{taken_none, other-line, its-note}

-- ---- bytes to come and the streams of a log

-- a byte is the one that a line stands at
pub record At (b : KeyByte) (l : MLine) : Type 0 where
  pub cipher : b.origin.cipher ≡ l.cipher
  pub position : b.position ≡ l.pos
  pub value : value_of b ≡ byte_here l

pub record Follows (g : Log) (f : ℕ → KeyByte) : Type 0 where
  pub is : (k : ℕ) → At (f k) (place_at g.streams (length g.ins + k))

-- the first of them
first-at : (g : Log) (f : ℕ → KeyByte) → Follows g f → At (f 0) (standing g)
first-at g f h = subst (λ (k : ℕ). At (f 0) (place_at g.streams k)) (let z : length g.ins + 0 ≡ length g.ins = omega arith in z) (h.is 0)

along-at : (b : KeyByte) (l : MLine) (k : ℕ) → b.origin.cipher ≡ l.cipher → b.position ≡ l.pos + k → value_of b ≡ byte_of l (l.pos + k) → At b (along l k)
unfolding along byte_of
along-at b l k c p v = record { cipher = c; position = p; value = v }

-- a log that begins
begun-follows : (l : MLine) (f : ℕ → KeyByte) → ((k : ℕ) → At (f k) (along l k)) → Follows (begun l) f
begun-follows l f h =
    record { is = λ k. subst (At (f k)) (sym (place-begun l (0 + k))) (subst (λ (n : ℕ). At (f k) (along l n)) (let z : k ≡ 0 + k = omega arith in z) (h k)) }

opened-follows : (c : ℕ) (key iv : List ℕ) → Follows (begun (opened c key iv)) (bytes_from (record { cipher = c; key = key; iv = iv }))
unfolding opened
opened-follows c key iv =
    begun-follows (opened c key iv) _
    (λ k. let z : k ≡ 0 + k = omega arith in along-at _ (opened c key iv) k refl z (ap (byte_of (opened c key iv)) z))

-- a crypt goes on
crypt-follows : (g : Log) (f : ℕ → KeyByte) (x y : List ℕ) → Follows g f → Follows (joined g x y) (λ k. f (length x + k))
crypt-follows g f x y h =
    record {
      is =
          λ k. let e = length-append g.ins x in
          subst (λ (n : ℕ). At (f (length x + k)) (place_at g.streams n)) (let z : length g.ins + (length x + k) ≡ length (g.ins ++ x) + k = omega (arith, e) in z) (h.is (length x + k));
    }

-- a change: the new stream's bytes come where those that are left have come
change-follows : (g : Log) (f : ℕ → KeyByte) (p : ℕ) (key iv : List ℕ) → Follows g f → (c : ℕ) → (f 0).origin.cipher ≡ c →
    Follows (new_stream g p (stream_of (standing g).cipher key iv)) (changed_at f p (record { cipher = c; key = key_for c key; iv = iv_for c iv }))
unfolding changed_at byte_of opened along
change-follows g f p key iv h c ec = record { is = λ k. by k (ltb k (p - (f 0).position)) refl }
  where
    o : Origin
    o = record { cipher = c; key = key_for c key; iv = iv_for c iv }

    new : Stream
    new = record { since = length g.ins + (p - (standing g).pos); line = plain (standing g).mode (standing g).cipher (stream_of (standing g).cipher key iv) 0 0 }

    here : At (f 0) (standing g)
    here = first-at g f h

    cipher-is : c ≡ (standing g).cipher
    cipher-is = sym ec ∙ here.cipher

    left : p - (f 0).position ≡ p - (standing g).pos
    left = ap (λ (n : ℕ). p - n) here.position

    by : (k : ℕ) (b : Bool) → ltb k (p - (f 0).position) ≡ b → At (pick (ltb k (p - (f 0).position)) (f k) (bytes_from o (k - (p - (f 0).position)))) (place_at (new ∷ g.streams) (length g.ins + k))
    by k true e =
        let q = ltb-true k (p - (f 0).position) e in
        subst (λ (b : Bool). At (pick b (f k) (bytes_from o (k - (p - (f 0).position)))) (place_at (new ∷ g.streams) (length g.ins + k))) (sym e)
        (subst (At (f k)) (sym (place-no new g.streams (length g.ins + k) (omega (arith, q, left)))) (h.is k))
    by k false e =
        let q = ltb-false k (p - (f 0).position) e in
        let n : ℕ = length g.ins + k - (length g.ins + (p - (standing g).pos)) in
        let z : k - (p - (f 0).position) ≡ 0 + n = omega (arith, q, left) in
        subst (λ (b : Bool). At (pick b (f k) (bytes_from o (k - (p - (f 0).position)))) (place_at (new ∷ g.streams) (length g.ins + k))) (sym e)
        (subst (At (bytes_from o (k - (p - (f 0).position)))) (sym (place-yes new g.streams (length g.ins + k) (omega (arith, q, left))))
        (along-at _ new.line n cipher-is z (ap₂ (λ (x y : ℕ). byte_of (opened x (key_for x key) (iv_for x iv)) y) cipher-is z)))

-- ---- parks and loads

-- a log whose line goes on in another: from a line where nothing waits
goes-on-follows : (l l' : MLine) (g : Log) (f : ℕ → KeyByte) → Held l g → l.due ≡ 0 → GoesOn l l' → Follows g f → Follows (begun l') f
unfolding along byte_of
goes-on-follows l l' g f held none on h =
    begun-follows l' f (λ k.
    let e : place_at g.streams (length g.ins + k) ≡ bare (along l k) = sym (held.place k) ∙ ap bare (moved-bare l k none) in
    let w = subst (At (f k)) e (h.is k) in
    let p : l.pos + k ≡ l'.pos + k = ap (λ (n : ℕ). n + k) (sym on.position) in
    along-at (f k) l' k (w.cipher ∙ sym on.cipher) (w.position ∙ p) (w.value ∙ sym (on.bytes (l.pos + k) (omega arith)) ∙ ap (byte_of l') p))

-- an image that a park wrote
pub record Image (p : Parks) (noted : ℕ → ℕ → KeyByte) (image : List ℕ) : Type 0 where
  pub given : Given p (image_from image) (image_number image)
  pub goes_on : held_for p (image_from image) ≡ image_number image → Follows (begun (based (image_line image))) (noted (image_from image))

pub record Loaded (g : Log) (o : Origin) : Type 0 where
  pub is : standing g ≡ loaded_line o.cipher o.key
  pub bytes : All Byte o.key
  pub full : length o.key ≡ (cipher_at o.cipher).key

pub record Link (m : Machine) (g : ℕ → Log) (t : Notes) : Type 0 where
  pub lines : (i : ℕ) → (line_at m i).mode ≡ 1 → Follows (g i) (t.coming i)
  pub loads : (i : ℕ) → (line_at m i).mode ≡ 2 → Loaded (g i) (t.load i)
  pub images : (image : List ℕ) → In image t.images → Image m.parks t.parked image

started-follows : (g : Log) (o : Origin) (iv : List ℕ) → Loaded g o →
    Follows (begun (started_line (standing g) (iv_for (standing g).cipher iv))) (bytes_from (record { cipher = o.cipher; key = o.key; iv = iv_for o.cipher iv }))
unfolding loaded_line
started-follows g o iv h =
    subst (λ (l : MLine). Follows (begun l) (bytes_from (record { cipher = o.cipher; key = o.key; iv = iv_for o.cipher iv })))
    (sym (ap (λ (l : MLine). started_line l (iv_for l.cipher iv)) h.is ∙ loaded-starts o.cipher o.key iv h.bytes h.full))
    (opened-follows o.cipher o.key (iv_for o.cipher iv))

-- a park from line j leaves what is noted of other lines' images, and spends the number of its own
parked-image : (p : Parks) (j : ℕ) (f : ℕ → KeyByte) (noted : ℕ → ℕ → KeyByte) (image : List ℕ) → j < length p.held → Image p noted image → Image (parked p j) (for_line j f noted) image
parked-image p j f noted image below w = by (eqb j (image_from image)) refl
  where
    given : Given (parked p j) (image_from image) (image_number image)
    given = parked-given p j (image_from image) (image_number image) w.given

    by : (b : Bool) → eqb j (image_from image) ≡ b → Image (parked p j) (for_line j f noted) image
    by true e =
        let q = eqb-true j (image_from image) e in
        let spent = replaced-spent p j (image_number image) below (subst (λ (i : ℕ). Given p i (image_number image)) (sym q) w.given) in
        record { given = given; goes_on = λ z. absurd (spent.gone (ap (held_for (parked p j)) q ∙ z)) }
    by false e =
        record {
          given = given;
          goes_on =
              λ z. rw e (w.goes_on (sym (parked-other p j (image_from image) (λ q. eqb-false j (image_from image) e (sym q))) ∙ z));
        }

-- a resume spends the number that it takes up
taken-image : (p : Parks) (j : ℕ) (noted : ℕ → ℕ → KeyByte) (image : List ℕ) → Image p noted image → Image (taken p j) noted image
taken-image p j noted image w = record { given = taken-given p j (image_from image) (image_number image) w.given; goes_on = λ z. by z (eqb j (image_from image)) refl }
  where
    by : held_for (taken p j) (image_from image) ≡ image_number image → (b : Bool) → eqb j (image_from image) ≡ b → Follows (begun (based (image_line image))) (noted (image_from image))
    by z true e = absurd (w.given.some (sym z ∙ ap (held_for (taken p j)) (sym (eqb-true j (image_from image) e)) ∙ taken_none p j))
    by z false e = w.goes_on (sym (taken-other p j (image_from image) (λ q. eqb-false j (image_from image) e (sym q))) ∙ z)

-- ---- a call

-- neither the line of an image nor a line that is changed is loaded
image-open : (image : List ℕ) → (based (image_line image)).mode ≡ 2 → ⊥
unfolding based image_line
image-open image z = let y : ◌≡◌ {A = ℕ} 1 2 = z in omega (arith, y)

changed-open : (l : MLine) (p : ℕ) (s : List ℕ) → l.mode ≡ 1 → (changed l p s).mode ≡ 2 → ⊥
unfolding changed renewed
changed-open l p s up = by (eqb p l.pos)
  where
    by : (b : Bool) → (pick b (renewed l s) (record { mode = l.mode; cipher = l.cipher; base = l.base; from = l.from; pos = l.pos; due = p; waiting = s })).mode ≡ 2 → ⊥
    by true z = omega (arith, up, z)
    by false z = omega (arith, up, z)

-- line j is set: what is asked of lines of mode n holds of the new one, and of the others as it did
by-line : (ls : List MLine) (j : ℕ) (l : MLine) (n i : ℕ) (P : Bool → Type 0) → j < length ls → (j ≡ i → l.mode ≡ n → P true) → ((get_or ls i idle).mode ≡ n → P false) →
    (get_or (set ls j l) i idle).mode ≡ n → P (eqb j i)
by-line ls j l n i P below new old h = by (eqb j i) refl
  where
    by : (b : Bool) → eqb j i ≡ b → P b
    by true e =
        let q = eqb-true j i e in
        new q (sym (ap (λ (x : MLine). x.mode) (ap (λ (k : ℕ). get_or (set ls j l) k idle) (sym q) ∙ get_or-set_same ls j l idle below)) ∙ h)
    by false e = old (sym (ap (λ (x : MLine). x.mode) (other-line ls j i l e)) ∙ h)

module _ (m : Machine) (eight : length m.lines ≡ 8) (good : GoodCard m) (a : Call) (bytes : CallBytes a) (g : ℕ → Log) (held : (i : ℕ) → Held (line_at m i) (g i)) (t : Notes) (w : Link m g t) where
  -- at its line, by the mode of the line that is set
  set_line : (j : ℕ) (l : MLine) (n i : ℕ) (P : Bool → Type 0) → Names a j → (j ≡ i → l.mode ≡ n → P true) → ((get_or m.lines i idle).mode ≡ n → P false) →
      (get_or (set m.lines j l) i idle).mode ≡ n → P (eqb j i)
  set_line j l n i P s = let b = s.below in by-line m.lines j l n i P (omega (arith, b, eight))

  lines_at : (i j : ℕ) → j ≡ i → (line_at m j).mode ≡ 1 → Follows (g i) (t.coming j)
  lines_at i j e up = subst (λ (k : ℕ). Follows (g k) (t.coming j)) e (w.lines j up)

  parked-now : (j : ℕ) → Names a j → (line_at m j).mode ≡ 1 → (line_at m j).due ≡ 0 → no_more m.parks j ≡ false →
      Image (parked m.parks j) (for_line j (t.coming j) t.parked) (image_of j (number_now m.parks j) (shown (line_at m j)))
  parked-now j s up none left =
      let l = line_at m j in
      let k = number_now m.parks j in
      let q = s.below in
      let b : j < 2 ^ 8 = omega (arith, q) in
      let word = number_word m.parks j left in
      let h = good-get good.lines j in
      let z = sized l h up none in
      let from = from_back j k b word (shown l) z in
      let number = number-back j k b word (shown l) z in
      let c = good.long.counts in
      let image = image_of j k (shown l) in
      let its_own = ap (for_line j (t.coming j) t.parked) from ∙ its-note t.parked j (t.coming j) in
      record {
        given = subst (λ (i : ℕ). Given (parked m.parks j) i (image_number image)) (sym from) (subst (Given (parked m.parks j) j) (sym number) (now-given m.parks j (omega (arith, c, q))));
        goes_on =
            λ _. subst (Follows (begun (based (image_line image)))) (sym its_own)
            (goes-on-follows l (based (image_line image)) (g j) (t.coming j) (held j) none (image-goes-on l (good-behind l h) z j k b word image refl) (w.lines j up));
      }

  pub call-link : (e : Effect) (d : Did) → Explained m a e d → Fair m a e → ((j : ℕ) (image : List ℕ) → d ≡ did-resume j image → In image t.images) →
      Link (perform m a.text e).machine (λ i. noted i (g i) d) (note_call t d)
  unfolding opened loaded_line started_line
  call-link (refuse k) did_nothing was-refused _ f = w
  call-link (put j l size) (did-open _ c key iv) (was-open s) _ f =
      record {
        lines =
            λ i. set_line j l 1 i (λ b. Follows (pick b (begun (opened c key iv)) (g i)) (pick b (bytes_from (record { cipher = c; key = key; iv = iv })) (t.coming i))) s
            (λ _ _. opened-follows c key iv) (w.lines i);
        loads = λ i. set_line j l 2 i (λ b. Loaded (pick b (begun (opened c key iv)) (g i)) (t.load i)) s (λ _ z. absurd (omega (arith, z))) (w.loads i);
        images = w.images;
      }
  call-link (crypt j n size) (did-crypt _ input output) (was-crypt s q) (fair-crypt up _ _) f =
      record {
        lines =
            λ i. set_line j _ 1 i (λ b. Follows (pick b (joined (g i) input output) (g i)) (pick b (λ k. t.coming j (length input + k)) (t.coming i))) s
            (λ e _. crypt-follows (g i) (t.coming j) input output (lines_at i j e up)) (w.lines i);
        loads =
            λ i. set_line j _ 2 i (λ b. Loaded (pick b (joined (g i) input output) (g i)) (t.load i)) s
            (λ _ z. absurd (let y : ◌≡◌ {A = ℕ} 1 2 = sym up ∙ sym (moved-mode (line_at m j) n) ∙ z in omega (arith, y))) (w.loads i);
        images = w.images;
      }
  call-link (park j size) (did-park _ image) (was-park s up none left) _ f =
      record {
        lines = λ i. set_line j idle 1 i (λ b. Follows (pick b (begun idle) (g i)) (t.coming i)) s (λ _ z. absurd (omega (arith, z))) (w.lines i);
        loads = λ i. set_line j idle 2 i (λ b. Loaded (pick b (begun idle) (g i)) (t.load i)) s (λ _ z. absurd (omega (arith, z))) (w.loads i);
        images = λ y i. by y (either-in t.images (image ∷ []) i);
      }
    where
      by : (y : List ℕ) → Either y t.images (image ∷ []) → Image (parked m.parks j) (for_line j (t.coming j) t.parked) y
      by y (in-first i) = let b = s.below in let h = good.long.held in parked-image m.parks j (t.coming j) t.parked y (omega (arith, b, h)) (w.images y i)
      by y (in-second i) = subst (Image (parked m.parks j) (for_line j (t.coming j) t.parked)) (sym (only y image i)) (parked-now j s up none left)
  call-link (resume j l k size) (did-resume _ image) (was-resume s h) _ f =
      let image-is = w.images image (f j image refl) in
      let on = image-is.goes_on (holds-told m.parks (image_from image) (image_number image) h) in
      record {
        lines = λ i. set_line j l 1 i (λ b. Follows (pick b (begun (based (image_line image))) (g i)) (pick b (t.parked (image_from image)) (t.coming i))) s (λ _ _. on) (w.lines i);
        loads = λ i. set_line j l 2 i (λ b. Loaded (pick b (begun (based (image_line image))) (g i)) (t.load i)) s (λ _ z. absurd (image-open image z)) (w.loads i);
        images = λ y i. taken-image m.parks (image_from image) t.parked y (w.images y i);
      }
  call-link (put j l size) (did-close _) (was-close s) _ f =
      record {
        lines = λ i. set_line j l 1 i (λ b. Follows (pick b (begun idle) (g i)) (t.coming i)) s (λ _ z. absurd (omega (arith, z))) (w.lines i);
        loads = λ i. set_line j l 2 i (λ b. Loaded (pick b (begun idle) (g i)) (t.load i)) s (λ _ z. absurd (omega (arith, z))) (w.loads i);
        images = w.images;
      }
  call-link (put j l size) (did-load _ c key) (was-load s h full) _ f =
      record {
        lines = λ i. set_line j l 1 i (λ b. Follows (pick b (begun (loaded_line c key)) (g i)) (t.coming i)) s (λ _ z. absurd (omega (arith, z))) (w.lines i);
        loads =
            λ i. set_line j l 2 i (λ b. Loaded (pick b (begun (loaded_line c key)) (g i)) (pick b (record { cipher = c; key = key; iv = [] }) (t.load i))) s
            (λ _ _. record { is = standing-begun (loaded_line c key); bytes = h bytes.tray; full = full }) (w.loads i);
        images = w.images;
      }
  call-link (start j v size) (did-start _ iv) (was-start s up) _ f =
      record {
        lines =
            λ i. set_line j _ 1 i
            (λ b. Follows (pick b (begun (started_line (standing (g i)) (iv_for (standing (g i)).cipher iv))) (g i)) (pick b (bytes_from (start_origin t j iv)) (t.coming i))) s
            (λ e _. started-follows (g i) (t.load j) iv (subst (λ (k : ℕ). Loaded (g k) (t.load j)) e (w.loads j up))) (w.lines i);
        loads =
            λ i. set_line j _ 2 i (λ b. Loaded (pick b (begun (started_line (standing (g i)) (iv_for (standing (g i)).cipher iv))) (g i)) (t.load i)) s
            (λ _ z. absurd (omega (arith, z))) (w.loads i);
        images = w.images;
      }
  call-link (change j p v size) (did-change _ _ key iv) (was-change s up none le) _ f =
      record {
        lines =
            λ i. set_line j _ 1 i (λ b. Follows (pick b (new_stream (g i) p (stream_of (standing (g i)).cipher key iv)) (g i)) (pick b (changed_at (t.coming j) p (change_origin t j key iv)) (t.coming i))) s
            (λ e _. change-follows (g i) (t.coming j) p key iv (lines_at i j e up) (t.coming j 0).origin.cipher refl) (w.lines i);
        loads =
            λ i. set_line j _ 2 i (λ b. Loaded (pick b (new_stream (g i) p (stream_of (standing (g i)).cipher key iv)) (g i)) (t.load i)) s
            (λ _ z. absurd (changed-open (line_at m j) p _ up z)) (w.loads i);
        images = w.images;
      }
  call-link _ _ x _ f = elim x [ ]
