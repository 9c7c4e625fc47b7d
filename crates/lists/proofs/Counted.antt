-- Positions and codes: a stream that a change brings begins at 0, a line's bytes follow one another, the row of number 13 keeps each below 2^36, and each row gives its own number.
-- Assumes nothing.
use Prim.Native.Nat.{ℕ, suc, ◌+◌, ◌-◌, ◌<◌, ◌≤◌}
use mathlib.Core.Path.{◌≡◌, refl, ap, sym, ◌∙◌, subst}
use mathlib.Core.List.{List, [], ◌∷◌, ◌++◌}
use mathlib.Core.Bool.{Bool, true, false}
use native.Mathlib.Omega.{arith}
use native.Mathlib.Decide.{dec_lt}
use lib.Dec.{leb, eqb, lit≤}
use lib.ListN.{length, take, length-append}
use lib.Seq.{length-take-le}
use borrow.Author.Tests.{le-leb, lt-leb, eqb-true}
use Rattle.words.specs.Tests.{pick}
use Rattle.card_moves.specs.Moves.{comes_due, position_on}
use Rattle.card_moves.proofs.Due.{due-told, not-told}
use Rattle.machine.specs.Machine.{MLine, Line, Machine, Seen, line_at, idle, plain, shown, along, renewed, moved, limit, last_number, Call, Effect, refuse, put, crypt, park, resume, change, start, step, shows, fresh_machine, fresh_card}
use Rattle.machine.specs.Calls.{Made, made_of, machine_run, calls_of, card_after, line_on, AllBytes}
use Rattle.lists.specs.Logs.{Did, did_nothing, did-open, did-crypt, did-park, did-resume, did-close, did-change, did-load, did-start, did, Stream, Log, begun, joined, place_at, standing, new_stream, noted, log_after, log_of}
use Rattle.lists.specs.OneStream.{Stands}
use Rattle.lists.specs.Counted.{stream_at, position_at, Positions, Takes, Counted}
use Rattle.machine.proofs.Moves.{moved-past, moved-short, moved-pos}
use Rattle.machine.proofs.Lines.{Good, good-idle, good-loaded, good-open, due-low}
use Rattle.machine.proofs.Simulation.{GoodCard, good-get, Fair, fair-crypt, fair-step}
use Rattle.lists.proofs.Streams.{Held, place-yes, place-no, seen_at, held-streamed}
use Rattle.lists.proofs.Explained.{Explained, was-refused, was-open, was-crypt, was-park, was-resume, was-close, was-change, was-load, was-start}
use Rattle.lists.proofs.OneStream.{machine_after, Runs, runs, Reached, reached, reached-fresh, explained-at, place, told_at, line_after, log-last, on-its-line}
use Rattle.machine.proofs.Codes.{code-small}

-- ---- streams of a log: the oldest begins at the log's first byte, and every other at position 0

pub data Chain : List Stream → Type 0 where
  chain-one : {s : Stream} → s.since ≡ 0 → Chain (s ∷ [])
  chain_more : {s : Stream} {rest : List Stream} → s.line.pos ≡ 0 → Chain rest → Chain (s ∷ rest)

stream-below : (ss : List Stream) → Chain ss → (j : ℕ) → stream_at ss j < length ss
stream-below [] c j = elim c [ ]
stream-below (s ∷ []) (chain-one e) j = go (leb s.since j)
  where
    go : (b : Bool) → pick b 0 0 < 1
    go true = omega arith
    go false = omega arith
stream-below (s ∷ rest) (chain_more e c) j = go (leb s.since j) (stream-below rest c j)
  where
    go : (b : Bool) → stream_at rest j < length rest → pick b (length rest) (stream_at rest j) < suc (length rest)
    go true q = omega arith
    go false q = omega (arith, q)

stream-yes : (s : Stream) (rest : List Stream) (j : ℕ) → s.since ≤ j → stream_at (s ∷ rest) j ≡ length rest
stream-yes s rest j h = ap (λ (b : Bool). pick b (length rest) (stream_at rest j)) (le-leb s.since j h)

stream-no : (s : Stream) (rest : List Stream) (j : ℕ) → j < s.since → stream_at (s ∷ rest) j ≡ stream_at rest j
stream-no s rest j h = ap (λ (b : Bool). pick b (length rest) (stream_at rest j)) (lt-leb s.since j h)

pos-yes : (s : Stream) (rest : List Stream) (j : ℕ) → s.since ≤ j → (place_at (s ∷ rest) j).pos ≡ s.line.pos + (j - s.since)
unfolding along
pos-yes s rest j h = ap (λ (l : MLine). l.pos) (place-yes s rest j h)

pos-no : (s : Stream) (rest : List Stream) (j : ℕ) → j < s.since → (place_at (s ∷ rest) j).pos ≡ (place_at rest j).pos
pos-no s rest j h = ap (λ (l : MLine). l.pos) (place-no s rest j h)

record Steady (ss : List Stream) (j : ℕ) : Type 0 where
  pub follow : stream_at ss (suc j) ≡ stream_at ss j → (place_at ss (suc j)).pos ≡ suc (place_at ss j).pos
  pub begin : (stream_at ss (suc j) ≡ stream_at ss j → ⊥) → (place_at ss (suc j)).pos ≡ 0

-- bytes of the newest stream
steady-in : (s : Stream) (rest : List Stream) (j : ℕ) → s.since ≤ j → Steady (s ∷ rest) j
steady-in s rest j h =
    let a = pos-yes s rest j h in
    let b = pos-yes s rest (suc j) (omega (arith, h)) in
    record {
      follow = λ _. omega (arith, a, b, h);
      begin = λ ne. absurd (ne (stream-yes s rest (suc j) (omega (arith, h)) ∙ sym (stream-yes s rest j h)));
    }

steady : (ss : List Stream) → Chain ss → (j : ℕ) → Steady ss j
steady [] c j = elim c [ ]
steady (s ∷ []) (chain-one e) j = steady-in s [] j (omega (arith, e))
steady (s ∷ rest) (chain_more e c) j = by (dec_lt j s.since) (dec_lt (suc j) s.since) (steady rest c j)
  where
    by : Dec (j < s.since) → Dec (suc j < s.since) → Steady rest j → Steady (s ∷ rest) j
    by (no q) _ w = steady-in s rest j (omega (arith, q))
    by (yes q) (yes r) w =
        let a = pos-no s rest j q in
        let b = pos-no s rest (suc j) r in
        let c1 = stream-no s rest j q in
        let c2 = stream-no s rest (suc j) r in
        record {
          follow = λ f. b ∙ w.follow (sym c2 ∙ f ∙ c1) ∙ ap suc (sym a);
          begin = λ ne. b ∙ w.begin (λ f. ne (c2 ∙ f ∙ sym c1));
        }
    by (yes q) (no r) w =
        let b = pos-yes s rest (suc j) (omega (arith, r)) in
        let c1 = stream-no s rest j q in
        let c2 = stream-yes s rest (suc j) (omega (arith, r)) in
        let lt = stream-below rest c j in
        record {
          follow = λ f. absurd (omega (arith, f, c1, c2, lt));
          begin = λ _. omega (arith, b, e, q, r);
        }

-- ---- the bytes of a crypt that the row of number 13 let pass stand below 2^36

module _ (l : MLine) (good : Good l) (n : ℕ) (room : position_on l.pos l.due n ≤ limit) where
  end_low : (moved l n).pos ≤ limit
  end_low = subst (λ (x : ℕ). x ≤ limit) (sym (moved-pos l n)) room

  byte_low : (k : ℕ) → k < n → (moved l k).pos < limit
  unfolding along renewed
  byte_low k q = by (comes_due l.pos l.due n) refl (comes_due l.pos l.due k) refl
    where
      by : (b : Bool) → comes_due l.pos l.due n ≡ b → (c : Bool) → comes_due l.pos l.due k ≡ c → (moved l k).pos < limit
      by true e true f =
          let d = due-told l.pos l.due n e in
          let d' = due-told l.pos l.due k f in
          let a = ap (λ (x : MLine). x.pos) (moved-past l n d.0 d.1) in
          let c = ap (λ (x : MLine). x.pos) (moved-past l k d'.0 d'.1) in
          let w = end_low in
          let y = d'.1 in
          omega (arith, a, c, w, q, y)
      by true e false f =
          let d = due-told l.pos l.due n e in
          let g = not-told l.pos l.due k f in
          let y = g d.0 in
          let u = due-low l good d.0 in
          let c = ap (λ (x : MLine). x.pos) (moved-short l k g) in
          omega (arith, c, y, u)
      by false e c f =
          let g = not-told l.pos l.due n e in
          let a = ap (λ (x : MLine). x.pos) (moved-short l n g) in
          let c = ap (λ (x : MLine). x.pos) (moved-short l k (λ lt. let y = g lt in omega (arith, y, q))) in
          let w = end_low in
          omega (arith, a, c, w, q)

-- ---- carried along the list

pub record Ordered (g : Log) : Type 0 where
  pub chain : Chain g.streams
  pub below : (j : ℕ) → j < length g.ins → position_at g j < limit

pub begun-ordered : (l : MLine) → Ordered (begun l)
begun-ordered l = record { chain = chain-one refl; below = λ j q. absurd (omega (arith, q)) }

crypt-ordered : (l : MLine) (g : Log) → Held l g → Good l → (x y : List ℕ) → position_on l.pos l.due (length x) ≤ limit → Ordered g → Ordered (joined g x y)
crypt-ordered l g h good x y room o = record { chain = o.chain; below = λ j q. by j q (dec_lt j (length g.ins)) }
  where
    by : (j : ℕ) → j < length (g.ins ++ x) → Dec (j < length g.ins) → (place_at g.streams j).pos < limit
    by j q (yes r) = o.below j r
    by j q (no r) =
        let e = length-append g.ins x in
        let k : ℕ = j - length g.ins in
        let z : length g.ins + k ≡ j = omega (arith, r) in
        subst (λ (i : ℕ). (place_at g.streams i).pos < limit) z
        (subst (λ (i : MLine). i.pos < limit) (h.place k) (byte_low l good (length x) room k (omega (arith, q, e, r))))

change-ordered : (g : Log) (p : ℕ) (s : List ℕ) → Ordered g → Ordered (new_stream g p s)
change-ordered g p s o =
    record {
      chain = chain_more refl o.chain;
      below = λ j q. subst (λ (x : MLine). x.pos < limit) (sym (place-no new g.streams j (omega arith))) (o.below j q);
    }
  where
    new : Stream
    new = record { since = length g.ins + (p - (standing g).pos); line = plain (standing g).mode (standing g).cipher s 0 0 }

pick-ordered : (b : Bool) (g' g : Log) → (b ≡ true → Ordered g') → Ordered g → Ordered (pick b g' g)
pick-ordered true g' g f o = f refl
pick-ordered false g' g f o = o

module _ (m : Machine) (good : GoodCard m) (a : Call) (i : ℕ) (g : Log) (h : Held (line_at m i) g) (o : Ordered g) where
  note-ordered : (e : Effect) (d : Did) → Explained m a e d → Fair m a e → Ordered (noted i g d)
  note-ordered (refuse k) did_nothing was-refused _ = o
  note-ordered (put j _ size) (did-open _ c key iv) (was-open n) _ = pick-ordered (eqb j i) _ g (λ _. begun-ordered _) o
  note-ordered (crypt j k size) (did-crypt _ _ _) (was-crypt n q) (fair-crypt up room _) =
      pick-ordered (eqb j i) _ g
      (λ e. crypt-ordered (line_at m i) g h (good-get good.lines i) (take k a.text) _
      (subst (λ (x : ℕ). position_on (line_at m i).pos (line_at m i).due x ≤ limit) (sym (length-take-le k a.text q))
      (subst (λ (x : ℕ). position_on (line_at m x).pos (line_at m x).due k ≤ limit) (eqb-true j i e) room)) o) o
  note-ordered (park j size) (did-park _ _) (was-park n q z r) _ = pick-ordered (eqb j i) _ g (λ _. begun-ordered idle) o
  note-ordered (resume j _ k size) (did-resume _ image) (was-resume n _) _ = pick-ordered (eqb j i) _ g (λ _. begun-ordered _) o
  note-ordered (put j _ size) (did-close _) (was-close n) _ = pick-ordered (eqb j i) _ g (λ _. begun-ordered idle) o
  note-ordered (put j _ size) (did-load _ c key) (was-load n f k) _ = pick-ordered (eqb j i) _ g (λ _. begun-ordered _) o
  note-ordered (start j _ size) (did-start _ iv) (was-start n up) _ = pick-ordered (eqb j i) _ g (λ _. begun-ordered _) o
  note-ordered (change j p _ size) (did-change _ _ key iv) (was-change n up z le) _ = pick-ordered (eqb j i) _ g (λ _. change-ordered g p _ o) o
  note-ordered _ _ x _ = elim x [ ]

pub step-ordered : (m : Machine) (c : Seen) (g : ℕ → Log) (x : Made) → Reached m c g → AllBytes (x ∷ []) → x ≡ made_of x.call (shows (step m x.call)) → ((i : ℕ) → Ordered (g i)) →
    (i : ℕ) → Ordered (noted i (g i) (did x))
step-ordered m c g x r b e o i = note-ordered m r.good x.call i (g i) (r.held i) (o i) _ (did x) (explained-at m x e) (fair-step m x.call b.0)

pub all-ordered : (xs : List Made) (m : Machine) (c : Seen) (g : ℕ → Log) → Reached m c g → Runs m xs → AllBytes xs → ((i : ℕ) → Ordered (g i)) → (i : ℕ) → Ordered (log_after i (g i) xs)
all-ordered [] m c g r h b o i = o i
all-ordered (x ∷ xs) m c g r h b o i =
    all-ordered xs (step m x.call).machine x.card (λ j. noted j (g j) (did x)) (reached (x ∷ []) m c g r (h.0, tt) (b.0, tt)) h.1 b.1
    (step-ordered m c g x r (b.0, tt) h.0 o) i

good-within : (l : MLine) → Good l → l.pos ≤ limit
good-within l good-idle = lit≤ tt
good-within l (good-loaded g w) = lit≤ tt
good-within l (good-open m c p b f w) = p

-- ---- the list

module _ (xs : List Made) (is : xs ≡ machine_run fresh_machine (calls_of xs)) (bytes : AllBytes xs) where
  all : Reached (machine_after fresh_machine xs) (card_after fresh_card xs) (λ i. log_of i xs)
  all = reached xs fresh_machine fresh_card (λ i. begun idle) reached-fresh (runs xs fresh_machine is) bytes

  takes_at : {before : List Made} {x : Made} → Stands before x xs → (i : ℕ) (input output : List ℕ) → did x ≡ did-crypt i input output → Takes i before x input
  unfolding step shown along renewed
  takes_at {before = before} {x = x} s i input output dx =
      let m = machine_after fresh_machine before in
      let k = place xs is bytes s in
      let l = line_at m i in
      let here : line_on (card_after fresh_card before) i ≡ shown l = ap (λ (c : Seen). line_on c i) k.at.card ∙ seen_at m i in
      let n : (line_on (card_after fresh_card before) i).n ≡ l.pos = ap (λ (y : Line). y.n) here in
      let d : (line_on (card_after fresh_card before) i).due ≡ l.due = ap (λ (y : Line). y.due) here in
      let there : line_on x.card i ≡ shown (moved l (length input)) = line_after xs is bytes before x k i ∙ ap shown (told_at xs is bytes s (did-crypt i input output) dx) in
      let g : log_of i (before ++ (x ∷ [])) ≡ joined (log_of i before) input output = log-last i before x dx ∙ on-its-line i _ _ in
      record {
        begins = n ∙ (held-streamed l (log_of i before) (k.at.held i)).position;
        ends = λ f.
            ap (λ (y : Line). y.n) there
            ∙ ap (λ (y : MLine). y.pos) (moved-short l (length input) (λ q. let z = f (omega (arith, q, n, d)) in omega (arith, z, n, d)))
            ∙ ap (λ (y : ℕ). y + length input) (sym n);
        past-change = λ p q.
            let e = there ∙ ap shown (moved-past l (length input) (omega (arith, p, n, d)) (omega (arith, q, n, d))) in
            (ap (λ (y : Line). y.n) e ∙ (let z : 0 + (l.pos + length input - l.due) ≡ (line_on (card_after fresh_card before) i).n + length input - (line_on (card_after fresh_card before) i).due = omega (arith, n, d) in z), ap (λ (y : Line). y.due) e);
        since = ap (λ (y : Log). y.streams) g;
        inputs = ap (λ (y : Log). y.ins) g;
      }

  positions-at : (i : ℕ) → Positions (log_of i xs)
  positions-at i =
      let o = all-ordered xs fresh_machine fresh_card (λ i. begun idle) reached-fresh (runs xs fresh_machine is) bytes (λ _. begun-ordered idle) i in
      record { follow = λ j. (steady (log_of i xs).streams o.chain j).follow; begin = λ j. (steady (log_of i xs).streams o.chain j).begin; below = o.below }

  within-at : (i : ℕ) → (line_on (card_after fresh_card xs) i).n ≤ limit
  unfolding shown
  within-at i =
      let e : line_on (card_after fresh_card xs) i ≡ shown (line_at (machine_after fresh_machine xs) i) = ap (λ (c : Seen). line_on c i) all.card ∙ seen_at (machine_after fresh_machine xs) i in
      subst (λ (y : Line). y.n ≤ limit) (sym e) (good-within (line_at (machine_after fresh_machine xs) i) (good-get all.good.lines i))

  codes_at : {before : List Made} {x : Made} → Stands before x xs → x.code ≤ last_number
  codes_at {before = before} {x = x} s =
      let k = place xs is bytes s in
      subst (λ (y : Made). y.code ≤ last_number) (sym k.run) (code-small (machine_after fresh_machine before) x.call)

  pub machine-counted : Counted xs
  machine-counted = record { takes = takes_at; positions = positions-at; within = within-at; codes = codes_at }
