-- No keystream byte is used twice, of every list that is the machine's: the notes and the machine are carried along the list call by call, and the claim is read off at each crypt's place.
-- Assumes nothing.
use Prim.Native.Nat.{ℕ, ◌+◌, ◌<◌}
use mathlib.Core.Path.{◌≡◌, refl, ap, sym, ◌∙◌, subst}
use mathlib.Core.List.{List, [], ◌∷◌, ◌++◌, map, append_assoc, append-nil}
use native.Mathlib.Omega.{arith}
use lib.ListN.{length}
use Rattle.keystream.specs.Stream.{xor_from}
use Rattle.keystream.proofs.Laws.{xor_from-agree}
use Rattle.machine.specs.Machine.{MLine, Machine, Seen, line_at, idle, byte_of, enciphered, Call, Effect, refuse, put, crypt, park, resume, change, start, public, decide, step, fresh_machine, fresh_card}
use Rattle.machine.specs.Parks.{fresh_parks}
use Rattle.machine.specs.Calls.{Made, machine_run, calls_of, AllBytes}
use Rattle.lists.specs.Logs.{Did, did_nothing, did-open, did-crypt, did-park, did-resume, did-close, did-change, did-load, did-start, did, Log, begun, noted}
use Rattle.lists.specs.OneStream.{Stands}
use Rattle.lists.specs.Steps.{Steps}
use Rattle.machine.proofs.Moves.{byte_here, enciphered-bytes}
use Rattle.machine.proofs.Parks.{ok-below, fresh_ok, fresh-long, fresh-count}
use Rattle.machine.proofs.Simulation.{Fair, fair-crypt, fair-step}
use Rattle.lists.proofs.Explained.{Explained, was-refused, was-open, was-crypt, was-park, was-resume, was-close, was-change, was-load, was-start}
use Rattle.lists.proofs.Streams.{Held, held-here, standing-begun}
use Rattle.lists.proofs.OneStream.{Runs, machine_after, runs, explained-at, Reached, reached, reached-fresh, stands-in}
use Rattle.lists.proofs.Steps.{steps-bytes, steps-one-stream}
use Rattle.uses.specs.Uses.{KeyByte, value_of, first_bytes, Notes, no_notes, note_call, notes_after, notes_of, In, NoneTwice, FreshKeys, UnalteredAfter, Unaltered, CryptUses, KeystreamOnce}
use Rattle.uses.proofs.Twice.{in-none, first-in, second-in, parts-apart, none_before, nth_in}
use Rattle.uses.proofs.Apart.{Place, here, held, Live, ApartAt, call-apart}
use Rattle.uses.proofs.Follows.{Follows, Link, call-link}

-- ---- notes grow

record Grows {A : Type 0} (xs ys : List A) : Type 0 where
  pub more : List A
  pub is : ys ≡ xs ++ more

record Grown (t t' : Notes) : Type 0 where
  pub begun : Grows t.begun t'.begun
  pub used : Grows t.used t'.used

stays : {A : Type 0} (xs : List A) → Grows xs xs
stays xs = record { more = []; is = sym (append-nil xs) }

grows-on : {A : Type 0} {xs ys zs : List A} → Grows xs ys → Grows ys zs → Grows xs zs
grows-on {xs = xs} g h = record { more = g.more ++ h.more; is = h.is ∙ ap (λ (l : List _). l ++ h.more) g.is ∙ append_assoc xs g.more h.more }

one_more : {A : Type 0} (xs ys : List A) → Grows xs (xs ++ ys)
one_more xs ys = record { more = ys; is = refl }

call-grown : (t : Notes) (d : Did) → Grown t (note_call t d)
call-grown t did_nothing = record { begun = stays t.begun; used = stays t.used }
call-grown t (did-open i c key iv) = record { begun = one_more t.begun _; used = stays t.used }
call-grown t (did-crypt i input output) = record { begun = stays t.begun; used = one_more t.used _ }
call-grown t (did-park i image) = record { begun = stays t.begun; used = stays t.used }
call-grown t (did-resume i image) = record { begun = stays t.begun; used = stays t.used }
call-grown t (did-close i) = record { begun = stays t.begun; used = stays t.used }
call-grown t (did-change i p key iv) = record { begun = one_more t.begun _; used = stays t.used }
call-grown t (did-load i c key) = record { begun = stays t.begun; used = stays t.used }
call-grown t (did-start i iv) = record { begun = one_more t.begun _; used = stays t.used }

grown : (ds : List Did) (t : Notes) → Grown t (notes_after t ds)
grown [] t = record { begun = stays t.begun; used = stays t.used }
grown (d ∷ ds) t =
    let g = call-grown t d in
    let h = grown ds (note_call t d) in
    record { begun = grows-on g.begun h.begun; used = grows-on g.used h.used }

notes-append : (xs ys : List Made) (t : Notes) → notes_after t (map did (xs ++ ys)) ≡ notes_after (notes_after t (map did xs)) (map did ys)
notes-append [] ys t = refl
notes-append (x ∷ xs) ys t = notes-append xs ys (note_call t (did x))

-- what is used up to a call and with it stands first in what is used later
used-later : {before xs : List Made} {x : Made} → Stands before x xs → Grows (notes_of (before ++ (x ∷ []))).used (notes_of xs).used
used-later {before = before} {x = x} s =
    let g = (grown (map did s.after) (notes_of (before ++ (x ∷ [])))).used in
    record {
      more = g.more;
      is =
          ap (λ (l : List Made). (notes_of l).used) (s.is ∙ sym (append_assoc before (x ∷ []) s.after))
          ∙ ap (λ (t : Notes). t.used) (notes-append (before ++ (x ∷ [])) s.after no_notes)
          ∙ g.is;
    }

-- ---- a fresh card

fresh-mode : (i : ℕ) → (line_at fresh_machine i).mode ≡ 0
fresh-mode i = ap (λ (l : MLine). l.mode) (sym (held-here (line_at fresh_machine i) (begun idle) (reached-fresh.held i)) ∙ standing-begun idle)

fresh-link : Link fresh_machine (λ i. begun idle) no_notes
fresh-link =
    record {
      lines = λ i h. absurd (let z = fresh-mode i in omega (arith, z, h));
      loads = λ i h. absurd (let z = fresh-mode i in omega (arith, z, h));
      images = λ image i. absurd (in-none i);
    }

none-live : (p : Place) → Live fresh_machine p → ⊥
none-live (here i) h = let z = fresh-mode i in omega (arith, z, h)
none-live (held i) h = h (let b = ok-below fresh_parks fresh-long fresh_ok i in let c = fresh-count i in omega (arith, b, c))

fresh-apart : ApartAt fresh_machine no_notes
fresh-apart =
    record {
      apart = λ p q h g k l e. absurd (none-live p h);
      unused = λ p h k i. none-live p h;
      begun = λ p h k. absurd (none-live p h);
      origins = λ u i. absurd (in-none i);
      once = tt;
    }

-- ---- a crypt

record Crypted (m : Machine) (i : ℕ) (input output : List ℕ) : Type 0 where
  pub up : (line_at m i).mode ≡ 1
  pub is : output ≡ enciphered (line_at m i) input

nope : ◌≡◌ {A = ℕ} 0 1 → ⊥
nope z = omega (arith, z)

crypted : (m : Machine) (a : Call) (e : Effect) (d : Did) → Explained m a e d → Fair m a e → (i : ℕ) (input output : List ℕ) → d ≡ did-crypt i input output → Crypted m i input output
crypted m a (crypt j n size) (did-crypt _ x y) (was-crypt s q) (fair-crypt up _ _) i input output z =
    let ej : j ≡ i = cc in
    let ex : x ≡ input = cc in
    let ey : y ≡ output = cc in
    record {
      up = subst (λ (k : ℕ). (line_at m k).mode ≡ 1) ej up;
      is = sym ey ∙ ap (λ (k : ℕ). enciphered (line_at m k) x) ej ∙ ap (enciphered (line_at m i)) ex;
    }
crypted m a (refuse k) did_nothing was-refused _ i input output z = absurd (nope cc)
crypted m a (put j _ size) (did-open _ _ _ _) (was-open _) _ i input output z = absurd (nope cc)
crypted m a (park j size) (did-park _ _) (was-park _ _ _ _) _ i input output z = absurd (nope cc)
crypted m a (resume j _ k size) (did-resume _ _) (was-resume _ _) _ i input output z = absurd (nope cc)
crypted m a (put j _ size) (did-close _) (was-close _) _ i input output z = absurd (nope cc)
crypted m a (put j _ size) (did-load _ _ _) (was-load _ _ _) _ i input output z = absurd (nope cc)
crypted m a (start j _ size) (did-start _ _) (was-start _ _) _ i input output z = absurd (nope cc)
crypted m a (change j _ _ size) (did-change _ _ _ _) (was-change _ _ _ _) _ i input output z = absurd (nope cc)
crypted m a _ _ x _ i input output z = elim x [ ]

-- what an open line makes of a text
made : (l : MLine) (g : Log) (f : ℕ → KeyByte) → Held l g → Follows g f → (text : List ℕ) → enciphered l text ≡ xor_from (λ k. value_of (f k)) 0 text
unfolding byte_of
made l g f h w text =
    enciphered-bytes l text
    ∙ xor_from-agree _ (λ k. value_of (f k)) 0 0 text (λ i q. ap byte_here (h.place (0 + i)) ∙ sym (w.is (0 + i)).value)

-- ---- along a list

-- what a crypt writes
written-along : (before : List Made) (x : Made) (after : List Made) (m : Machine) (c : Seen) (g : ℕ → Log) (t : Notes) → Reached m c g → Runs m (before ++ (x ∷ after)) → AllBytes (before ++ (x ∷ after)) →
    UnalteredAfter t (map did (before ++ (x ∷ after))) → Link m g t → (i : ℕ) (input output : List ℕ) → did x ≡ did-crypt i input output →
    output ≡ xor_from (λ k. value_of ((notes_after t (map did before)).coming i k)) 0 input
unfolding step
written-along [] x after m c g t r h b u w i input output dx =
    let k = crypted m x.call _ (did x) (explained-at m x h.0) (fair-step m x.call b.0) i input output dx in
    k.is ∙ made (line_at m i) (g i) (t.coming i) (r.held i) (w.lines i k.up) input
written-along (y ∷ before) x after m c g t r h b u w i input output dx =
    written-along before x after (step m y.call).machine y.card (λ i. noted i (g i) (did y)) (note_call t (did y)) (reached (y ∷ []) m c g r (h.0, tt) (b.0, tt)) h.1 b.1 u.1
    (call-link m r.eight r.good y.call b.0 g r.held t w (decide (public m) y.call) (did y) (explained-at m y h.0) (fair-step m y.call b.0) u.0) i input output dx

apart-along : (xs : List Made) (m : Machine) (c : Seen) (g : ℕ → Log) (t : Notes) → Reached m c g → Runs m xs → AllBytes xs → NoneTwice (notes_after t (map did xs)).begun → ApartAt m t →
    ApartAt (machine_after m xs) (notes_after t (map did xs))
unfolding step
apart-along [] m c g t r h b n w = w
apart-along (x ∷ xs) m c g t r h b n w =
    let more = (grown (map did xs) (note_call t (did x))).begun in
    apart-along xs (step m x.call).machine x.card (λ i. noted i (g i) (did x)) (note_call t (did x)) (reached (x ∷ []) m c g r (h.0, tt) (b.0, tt)) h.1 b.1 n
    (call-apart m r.eight r.good x.call t w (decide (public m) x.call) (did x) (explained-at m x h.0) (fair-step m x.call b.0)
    (none_before (note_call t (did x)).begun more.more (subst NoneTwice more.is n)))

-- ---- the list

module _ (xs : List Made) (is : xs ≡ machine_run fresh_machine (calls_of xs)) (bytes : AllBytes xs) where
  crypts-at : Unaltered xs → {before : List Made} {x : Made} → Stands before x xs → (i : ℕ) (input output : List ℕ) → did x ≡ did-crypt i input output → CryptUses before x i input output
  crypts-at u {before = before} {x = x} s i input output dx =
      record {
        written =
            written-along before x s.after fresh_machine fresh_card (λ i. begun idle) no_notes reached-fresh (subst (Runs fresh_machine) s.is (runs xs fresh_machine is)) (subst AllBytes s.is bytes)
            (subst Unaltered s.is u) fresh-link i input output dx;
        noted = ap (λ (t : Notes). t.used) (notes-append before (x ∷ []) no_notes) ∙ ap (λ (d : Did). (note_call (notes_of before) d).used) dx;
      }

  once-in : FreshKeys xs → NoneTwice (notes_of xs).used
  once-in f = (apart-along xs fresh_machine fresh_card (λ i. begun idle) no_notes reached-fresh (runs xs fresh_machine is) bytes f fresh-apart).once

  -- what the first crypt used stands among the notes when the second uses its own
  two-crypts : Unaltered xs → FreshKeys xs → {before sofar : List Made} {x y : Made} → Stands sofar y xs → Stands before x sofar → (i j : ℕ) (input output input' output' : List ℕ) →
      did x ≡ did-crypt i input output → did y ≡ did-crypt j input' output' → (k l : ℕ) → k < length input → l < length input' →
      (notes_of before).coming i k ≡ (notes_of sofar).coming j l → ⊥
  two-crypts u f {before = before} {sofar = sofar} s t i j input output input' output' dx dy k l q r e =
      let first = used-later t in
      let all = used-later s in
      let nx = (crypts-at u (stands-in s t) i input output dx).noted in
      let ny = (crypts-at u s j input' output' dy).noted in
      let b = (notes_of before).coming i k in
      let there : In b (notes_of sofar).used =
      subst (In b) (sym (first.is ∙ ap (λ (us : List KeyByte). us ++ first.more) nx))
      (first-in first.more (second-in (notes_of before).used (nth_in (length input) ((notes_of before).coming i) k q))) in
      let n = none_before ((notes_of sofar).used ++ first_bytes (length input') ((notes_of sofar).coming j)) all.more (subst NoneTwice (all.is ∙ ap (λ (us : List KeyByte). us ++ all.more) ny) (once-in f)) in
      parts-apart (notes_of sofar).used (first_bytes (length input') ((notes_of sofar).coming j)) n there
      (subst (λ (c : KeyByte). In c (first_bytes (length input') ((notes_of sofar).coming j))) (sym e) (nth_in (length input') ((notes_of sofar).coming j) l r))

  -- Every list that is the machine's, in which commands and trays hold bytes.
  pub machine-keystream-once : Unaltered xs → FreshKeys xs → KeystreamOnce xs
  machine-keystream-once u f = record { crypts = crypts-at u; once = once-in f; no-two-crypts = two-crypts u f }

-- Every list of a card's steps, refused calls among them, from a fresh card.
pub steps-keystream-once : (xs : List Made) → Steps fresh_card xs → Unaltered xs → FreshKeys xs → KeystreamOnce xs
steps-keystream-once xs h = machine-keystream-once xs (steps-one-stream xs h).machine-is (steps-bytes h)
