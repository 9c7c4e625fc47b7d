-- What engineers see on a trunk. Calls on other lines are passed over one by one; a line's streams come of what its calls gave it, whenever they came, so two ends that were given the same hear
-- each other across every change; and two streams that meet at a byte are joined there.
-- Assumes nothing.
use mathlib.Core.Path.{◌≡◌, refl, ap, ap₂, sym, ◌∙◌, subst}
use mathlib.Core.Bool.{Bool, true, false}
use mathlib.Core.List.{List, [], ◌∷◌, ◌++◌, append_assoc, append-nil}
use Prim.Native.Nat.{ℕ, zero, suc, ◌+◌, ◌-◌, ◌<◌, ◌≤◌}
use native.Mathlib.Omega.{arith}
use native.Mathlib.Decide.{dec_lt}
use lib.Dec.{eqb}
use lib.ListN.{length, get_or, set, take, drop, replicate, take-append-drop, length-take, length-drop}
use lib.Seq.{get_or-set_same, get_or-set_other}
use Rattle.words.specs.Lists.{All, Byte}
use borrow.Author.Tests.{eqb-true, eqb-false}
use Rattle.words.specs.Tests.{pick}
use Rattle.keystream.specs.Stream.{xor_from}
use Rattle.keystream.proofs.Laws.{xor_from-append, xor_from-agree}
use Rattle.ciphers.specs.Table.{cipher_at}
use Rattle.machine.specs.Machine.{MLine, Machine, Seen, line_at, idle, plain, plain_line, byte_of, shown, based, along, renewed, moved, changed, opened, loaded_line, started_line, image_line, key_for, iv_for, stream_of, Call, Effect, refuse, put, crypt, park, resume, change, start, public, decide, perform, step, fresh_machine, fresh_card}
use Rattle.machine.specs.Parks.{number_now}
use Rattle.machine.specs.Calls.{Made, machine_run, calls_of, card_after, line_on, CallBytes, AllBytes}
use Rattle.lists.specs.Logs.{Did, did_nothing, did-open, did-crypt, did-park, did-resume, did-close, did-change, did-load, did-start, did, Stream, Log, begun, joined, place_at, byte_in, standing, key_byte, new_stream, noted, log_after, log_of}
use Rattle.lists.specs.OneStream.{GoesOn, AllOff, Stands, OneStream}
use Rattle.lists.specs.Trunk.{Given, no_stream, of-key, of-load, of_image, then-changed, started_by, given_by, given_from, given_to, newest, changed_to, streams_by}
use Rattle.machine.proofs.Deciphers.{twice}
use Rattle.machine.proofs.Moves.{moved-mode, moved-bare}
use Rattle.machine.proofs.Parks.{number_word}
use Rattle.machine.proofs.Fields.{image-back}
use Rattle.machine.proofs.Simulation.{good-get}
use Rattle.lists.proofs.Explained.{Names, Explained, was-refused, was-open, was-crypt, was-park, was-resume, was-close, was-change, was-load, was-start}
use Rattle.lists.proofs.Streams.{bare, Held, held-here, place-yes, place-no, place-begun, standing-begun, seen_at}
use Rattle.lists.proofs.OneStream.{machine_after, Runs, runs, Reached, reached, reached-fresh, explained-at, sized, log-last, on-its-line, stands-in, place, told_at, loaded-starts}
use Rattle.lists.proofs.Counted.{Chain, chain-one, chain_more, Ordered, begun-ordered, step-ordered}

-- ---- the same calls, the same answers

pub same-answers : (xs ys : List Made) → OneStream xs → OneStream ys → calls_of xs ≡ calls_of ys → xs ≡ ys
same-answers xs ys s t e = s.machine-is ∙ ap (machine_run fresh_machine) e ∙ sym t.machine-is

-- ---- a line on hold: calls on other lines and refused ones

-- line i after the calls of a list and then those of quiet, as it was before quiet
pub record OnHold (i : ℕ) (before quiet : List Made) : Type 0 where
  pub line : line_on (card_after fresh_card (before ++ quiet)) i ≡ line_on (card_after fresh_card before) i
  pub log : log_of i (before ++ quiet) ≡ log_of i before

card-last : (c : Seen) (xs : List Made) (x : Made) → card_after c (xs ++ (x ∷ [])) ≡ x.card
card-last c [] x = refl
card-last c (y ∷ xs) x = card-last y.card xs x

pub on-hold : (xs : List Made) → OneStream xs → (i : ℕ) (quiet before after : List Made) → xs ≡ before ++ (quiet ++ after) → AllOff i quiet → OnHold i before quiet
on-hold xs s i [] before after e a =
    record { line = ap (λ (l : List Made). line_on (card_after fresh_card l) i) (append-nil before); log = ap (log_of i) (append-nil before) }
on-hold xs s i (x ∷ quiet) before after e a =
    let k = s.others {before = before} {x = x} (record { after = quiet ++ after; is = e }) i a.0 in
    let h = on-hold xs s i quiet (before ++ (x ∷ [])) after (e ∙ sym (append_assoc before (x ∷ []) (quiet ++ after))) a.1 in
    let p = append_assoc before (x ∷ []) quiet in
    record {
      line =
          ap (λ (l : List Made). line_on (card_after fresh_card l) i) (sym p) ∙ h.line
          ∙ ap (λ (c : Seen). line_on c i) (card-last fresh_card before x) ∙ k.line-is;
      log = ap (log_of i) (sym p) ∙ h.log ∙ k.log_is;
    }

-- the card after a call and then those of quiet
held_after : (xs : List Made) → OneStream xs → {before : List Made} {x : Made} (s : Stands before x xs) (i : ℕ) (quiet after : List Made) → s.after ≡ quiet ++ after →
    AllOff i quiet → line_on (card_after fresh_card (before ++ (x ∷ quiet))) i ≡ line_on x.card i
held_after xs o {before = before} {x = x} s i quiet after e a =
    ap (λ (l : List Made). line_on (card_after fresh_card l) i) (sym (append_assoc before (x ∷ []) quiet))
    ∙ (on-hold xs o i quiet (before ++ (x ∷ [])) after
    (s.is ∙ ap (λ (l : List Made). before ++ (x ∷ l)) e ∙ sym (append_assoc before (x ∷ []) (quiet ++ after))) a).line
    ∙ ap (λ (c : Seen). line_on c i) (card-last fresh_card before x)

-- An open line waits in S(0) of its cipher, key and IV, whatever comes on other lines: two ends that were given the same stand alike.
pub opened-waits : (xs : List Made) → OneStream xs → {before : List Made} {x : Made} (s : Stands before x xs) (i c : ℕ) (key iv : List ℕ) → did x ≡ did-open i c key iv →
    (quiet after : List Made) → s.after ≡ quiet ++ after → AllOff i quiet →
    line_on (card_after fresh_card (before ++ (x ∷ quiet))) i ≡ plain_line 1 c 0 ((cipher_at c).init key iv)
opened-waits xs o s i c key iv d quiet after e a = held_after xs o s i quiet after e a ∙ o.from_key s i c key iv d

-- A resumed line waits at what its image says.
pub resumed-waits : (xs : List Made) → OneStream xs → {before : List Made} {x : Made} (s : Stands before x xs) (i : ℕ) (image : List ℕ) → did x ≡ did-resume i image →
    (quiet after : List Made) → s.after ≡ quiet ++ after → AllOff i quiet → line_on (card_after fresh_card (before ++ (x ∷ quiet))) i ≡ image_line image
resumed-waits xs o s i image d quiet after e a = held_after xs o s i quiet after e a ∙ o.from-image s i image d

-- ---- what a line was given, and the streams that come of it

abbrev mode_of : Given → ℕ
mode_of no_stream = 0
mode_of (of-key c key iv) = 1
mode_of (of-load c key) = 2
mode_of (of_image image) = 1
mode_of (then-changed t p key iv) = 1

-- a key that was loaded holds bytes, as many as its cipher takes
abbrev KeyOk : Given → Type 0
KeyOk no_stream = Unit {0}
KeyOk (of-key c key iv) = Unit {0}
KeyOk (of-load c key) = All Byte key × (length key ≡ (cipher_at c).key)
KeyOk (of_image image) = Unit {0}
KeyOk (then-changed t p key iv) = Unit {0}

-- a line and its log, and what it was given
record From (l : MLine) (g : Log) (t : Given) : Type 0 where
  pub mode : l.mode ≡ mode_of t
  pub key : KeyOk t
  pub streams : g.streams ≡ streams_by t

-- where nothing waits, the newest stream has begun
newest-begun : (l : MLine) (g : Log) → Held l g → l.due ≡ 0 → Chain g.streams → (newest g.streams).since ≤ length g.ins
unfolding along
newest-begun l g h d c = by g.streams c h.place
  where
    by : (ss : List Stream) → Chain ss → ((j : ℕ) → bare (moved l j) ≡ place_at ss (length g.ins + j)) → (newest ss).since ≤ length g.ins
    by [] c f = elim c [ ]
    by (s ∷ []) (chain-one e) f = omega (arith, e)
    by (s ∷ rest) (chain_more e c) f = go (dec_lt (length g.ins) s.since)
      where
        go : Dec (length g.ins < s.since) → s.since ≤ length g.ins
        go (no q) = omega (arith, q)
        go (yes q) =
            let k : ℕ = s.since - length g.ins in
            let a : (along l k).pos ≡ (along s.line (length g.ins + k - s.since)).pos =
            ap (λ (x : MLine). x.pos) (sym (ap bare (moved-bare l k d)) ∙ f k ∙ place-yes s rest (length g.ins + k) (omega (arith, q))) in
            absurd (omega (arith, a, e, q))

standing-newest : (g : Log) → Chain g.streams → (newest g.streams).since ≤ length g.ins → standing g ≡ along (newest g.streams).line (length g.ins - (newest g.streams).since)
standing-newest g c q = by g.streams c q
  where
    by : (ss : List Stream) → Chain ss → (newest ss).since ≤ length g.ins → place_at ss (length g.ins) ≡ along (newest ss).line (length g.ins - (newest ss).since)
    by [] c q = elim c [ ]
    by (s ∷ rest) c q = place-yes s rest (length g.ins) q

changed-mode : (l : MLine) (p : ℕ) (s : List ℕ) → (changed l p s).mode ≡ l.mode
unfolding changed renewed
changed-mode l p s = go (eqb p l.pos)
  where
    go : (b : Bool) → (pick b (renewed l s) (record { mode = l.mode; cipher = l.cipher; base = l.base; from = l.from; pos = l.pos; due = p; waiting = s })).mode ≡ l.mode
    go true = refl
    go false = refl

opened-mode : (c : ℕ) (key iv : List ℕ) → (opened c key iv).mode ≡ 1
unfolding opened
opened-mode c key iv = refl

loaded-mode : (c : ℕ) (key : List ℕ) → (loaded_line c key).mode ≡ 2
unfolding loaded_line
loaded-mode c key = refl

started-mode : (l : MLine) (iv : List ℕ) → (started_line l iv).mode ≡ 1
unfolding started_line
started-mode l iv = refl

image-mode : (image : List ℕ) → (based (image_line image)).mode ≡ 1
unfolding based image_line
image-mode image = refl

-- a change, whenever it is commanded, begins at the same byte
change-from : (l : MLine) (g : Log) (t : Given) → From l g t → Held l g → l.due ≡ 0 → Chain g.streams → (p : ℕ) → l.pos ≤ p → l.mode ≡ 1 → (key iv s : List ℕ) →
    From (changed l p s) (new_stream g p (stream_of (standing g).cipher key iv)) (then-changed t p key iv)
unfolding along
change-from l g t w h d c p le up key iv s =
    let nl = (newest g.streams).line in
    let n = (newest g.streams).since in
    let q = newest-begun l g h d c in
    let st = standing-newest g c q in
    let lp : (standing g).pos ≡ l.pos = ap (λ (x : MLine). x.pos) (held-here l g h) in
    let pos : (standing g).pos ≡ nl.pos + (length g.ins - n) = ap (λ (x : MLine). x.pos) st in
    let since : length g.ins + (p - (standing g).pos) ≡ n + (p - nl.pos) = omega (arith, pos, q, le, lp) in
    let mode : (standing g).mode ≡ 1 = ap (λ (x : MLine). x.mode) (held-here l g h) ∙ up in
    let cipher : (standing g).cipher ≡ nl.cipher = ap (λ (x : MLine). x.cipher) st in
    record {
      mode = changed-mode l p s ∙ up;
      key = tt;
      streams =
          (λ j. record { since = since j; line = plain (mode j) (cipher j) (stream_of (cipher j) key iv) 0 0 } ∷ g.streams)
          ∙ ap (λ (ss : List Stream). changed_to ss p key iv) w.streams;
    }

-- where a loaded line's log stands, a start is an open
start-key : (g : Log) (c : ℕ) (key iv : List ℕ) → g.streams ≡ streams_by (of-load c key) → All Byte key → length key ≡ (cipher_at c).key →
    started_line (standing g) (iv_for (standing g).cipher iv) ≡ opened c key (iv_for c iv)
unfolding loaded_line started_line along
start-key g c key iv e b n =
    let st : standing g ≡ along (loaded_line c key) (length g.ins) =
    ap (λ (ss : List Stream). place_at ss (length g.ins)) e ∙ place-begun (loaded_line c key) (length g.ins) in
    ap (λ (x : MLine). started_line x (iv_for x.cipher iv)) st ∙ loaded-starts c key iv b n

-- a start, after the load of a key
start-from : (l : MLine) (g : Log) (t : Given) → From l g t → l.mode ≡ 2 → (iv : List ℕ) (l' : MLine) → l'.mode ≡ 1 →
    From l' (begun (started_line (standing g) (iv_for (standing g).cipher iv))) (started_by t iv)
start-from l g no_stream w e iv l' e' = absurd (let z : ◌≡◌ {A = ℕ} 0 2 = sym w.mode ∙ e in omega (arith, z))
start-from l g (of-key _ _ _) w e iv l' e' = absurd (let z : ◌≡◌ {A = ℕ} 1 2 = sym w.mode ∙ e in omega (arith, z))
start-from l g (of_image _) w e iv l' e' = absurd (let z : ◌≡◌ {A = ℕ} 1 2 = sym w.mode ∙ e in omega (arith, z))
start-from l g (then-changed _ _ _ _) w e iv l' e' = absurd (let z : ◌≡◌ {A = ℕ} 1 2 = sym w.mode ∙ e in omega (arith, z))
start-from l g (of-load c key) w e iv l' e' =
    record { mode = e'; key = tt; streams = ap (λ (x : MLine). (begun x).streams) (start-key g c key iv w.streams w.key.0 w.key.1) }

module _ (m : Machine) (eight : length m.lines ≡ 8) (a : Call) (b : CallBytes a) (i : ℕ) (g : Log) (h : Held (line_at m i) g) (chain : Chain g.streams) (t : Given) (w : From (line_at m i) g t) where
  set-from : (j : ℕ) (l : MLine) (g' : Log) (t' : Given) → Names a j → (j ≡ i → From l g' t') → From (get_or (set m.lines j l) i idle) (pick (eqb j i) g' g) (pick (eqb j i) t' t)
  set-from j l g' t' n f = go (eqb j i) refl
    where
      go : (b : Bool) → eqb j i ≡ b → From (get_or (set m.lines j l) i idle) (pick b g' g) (pick b t' t)
      go true e =
          let q = eqb-true j i e in
          let lt = n.below in
          subst (λ (x : MLine). From x g' t') (sym (ap (λ (k : ℕ). get_or (set m.lines j l) k idle) (sym q) ∙ get_or-set_same m.lines j l idle (omega (arith, lt, eight)))) (f q)
      go false e = subst (λ (x : MLine). From x g t) (sym (get_or-set_other m.lines j i l idle (λ q. eqb-false j i e (sym q)))) w

  -- what a line was given is the same whichever way a test goes
  pick_same : (b : Bool) → pick b t t ≡ t
  pick_same true = refl
  pick_same false = refl

  given-step : (e : Effect) (d : Did) → Explained m a e d → From (line_at (perform m a.text e).machine i) (noted i g d) (given_by i t d)
  given-step (refuse k) did_nothing was-refused = w
  given-step (put j _ size) (did-open _ c key iv) (was-open n) = set-from j _ _ _ n (λ _. record { mode = opened-mode c key iv; key = tt; streams = refl })
  given-step (crypt j k size) (did-crypt _ x y) (was-crypt n q) =
      subst (From _ _) (pick_same (eqb j i))
      (set-from j (moved (line_at m j) k) (joined g _ _) t n (λ e. record { mode = moved-mode (line_at m j) k ∙ ap (λ (x : ℕ). (line_at m x).mode) e ∙ w.mode; key = w.key; streams = w.streams }))
  given-step (park j size) (did-park _ _) (was-park n q z r) = set-from j _ _ _ n (λ _. record { mode = refl; key = tt; streams = refl })
  given-step (resume j _ k size) (did-resume _ image) (was-resume n q) = set-from j _ _ _ n (λ _. record { mode = image-mode image; key = tt; streams = refl })
  given-step (put j _ size) (did-close _) (was-close n) = set-from j _ _ _ n (λ _. record { mode = refl; key = tt; streams = refl })
  given-step (put j _ size) (did-load _ c key) (was-load n f k) = set-from j _ _ _ n (λ _. record { mode = loaded-mode c key; key = (f b.tray, k); streams = refl })
  given-step (start j _ size) (did-start _ iv) (was-start n up) =
      set-from j _ _ _ n (λ e. start-from (line_at m i) g t w (subst (λ (x : ℕ). (line_at m x).mode ≡ 2) e up) iv _ (started-mode (line_at m j) _))
  given-step (change j p s size) (did-change _ _ key iv) (was-change n up z le) =
      set-from j _ _ _ n
      (λ e. subst (λ (l : MLine). From (changed l p s) (new_stream g p (stream_of (standing g).cipher key iv)) (then-changed t p key iv)) (ap (line_at m) (sym e))
      (change-from (line_at m i) g t w h (subst (λ (x : ℕ). (line_at m x).due ≡ 0) e z) chain p (subst (λ (x : ℕ). (line_at m x).pos ≤ p) e le) (subst (λ (x : ℕ). (line_at m x).mode ≡ 1) e up) key iv s))
  given-step _ _ x = elim x [ ]

givens : (xs : List Made) (m : Machine) (c : Seen) (g : ℕ → Log) → Reached m c g → Runs m xs → AllBytes xs → ((i : ℕ) → Ordered (g i)) → (i : ℕ) (t : Given) → From (line_at m i) (g i) t →
    From (line_at (machine_after m xs) i) (log_after i (g i) xs) (given_from i t xs)
unfolding step
givens [] m c g r h b o i t w = w
givens (x ∷ xs) m c g r h b o i t w =
    givens xs (step m x.call).machine x.card (λ j. noted j (g j) (did x)) (reached (x ∷ []) m c g r (h.0, tt) (b.0, tt)) h.1 b.1
    (step-ordered m c g x r (b.0, tt) h.0 o) i (given_by i t (did x))
    (given-step m r.eight x.call b.0 i (g i) (r.held i) (o i).chain t w (decide (public m) x.call) (did x) (explained-at m x h.0))

fresh-line : (i : ℕ) → line_at fresh_machine i ≡ idle
fresh-line i = go 8 i
  where
    go : (k i : ℕ) → get_or (replicate k idle) i idle ≡ idle
    go zero i = refl
    go (suc k) zero = refl
    go (suc k) (suc i) = go k i

-- A line's streams, and where each begins, come of what its calls gave it, whenever each change was commanded.
pub streams-given : (xs : List Made) → OneStream xs → AllBytes xs → (i : ℕ) → (log_of i xs).streams ≡ streams_by (given_to i xs)
streams-given xs s b i =
    (givens xs fresh_machine fresh_card (λ j. begun idle) reached-fresh (runs xs fresh_machine s.machine-is) b (λ _. begun-ordered idle) i no_stream
    (record { mode = ap (λ (l : MLine). l.mode) (fresh-line i); key = tt; streams = refl })).streams

-- ---- the two ends of a trunk

-- Where the far end's line has the near end's streams and was given, in frames of whatever lengths, all that the near end put out, it puts out all that the near end was given.
pub heard : (near far : List Made) → OneStream near → OneStream far → (i j : ℕ) → (log_of j far).streams ≡ (log_of i near).streams → (log_of j far).ins ≡ (log_of i near).outs →
    (log_of j far).outs ≡ (log_of i near).ins
heard near far s s' i j e q =
    (s'.streams j).outputs
    ∙ ap₂ (λ (x : List Stream) (y : List ℕ). xor_from (byte_in x) 0 y) e (q ∙ (s.streams i).outputs)
    ∙ twice (key_byte (log_of i near)) 0 (log_of i near).ins

-- Two ends whose lines were given the same (opened, or loaded and started, with one cipher, key and IV, or resumed with one image, and then given the same changes at the same positions, whenever each came) hear each
-- other.
pub both-ends-hear : (near far : List Made) → OneStream near → OneStream far → AllBytes near → AllBytes far → (i j : ℕ) → given_to i near ≡ given_to j far →
    (log_of j far).ins ≡ (log_of i near).outs → (log_of j far).outs ≡ (log_of i near).ins
both-ends-hear near far s s' b b' i j e q =
    heard near far s s' i j (streams-given far s' b' j ∙ ap streams_by (sym e) ∙ sym (streams-given near s b i)) q

-- ---- one change

-- a line that began at position n, with one change at p
one-change-log : (g : Log) (l new : MLine) (p : ℕ) → g.outs ≡ xor_from (key_byte g) 0 g.ins → g.streams ≡ record { since = 0 + (p - l.pos); line = new } ∷ record { since = 0; line = l } ∷ [] → new.pos ≡ 0 →
    g.outs ≡ xor_from (byte_of l) l.pos (take (p - l.pos) g.ins) ++ xor_from (byte_of new) 0 (drop (p - l.pos) g.ins)
unfolding along byte_of
one-change-log g l new p o e z =
    let k = p - l.pos in
    let a : Stream = record { since = 0 + k; line = new } in
    let c : Stream = record { since = 0; line = l } in
    let f = byte_in (a ∷ c ∷ []) in
    let x = take k g.ins in
    let y = drop k g.ins in
    let old : (j : ℕ) → j < k → f j ≡ byte_of l (l.pos + j) = λ j q.
    ap (λ (w : MLine). byte_of w w.pos) (place-no a (c ∷ []) j (omega (arith, q)) ∙ place-yes c [] j (omega arith)) ∙ ap (λ (w : ℕ). byte_of l (l.pos + w)) (let r : j - 0 ≡ j = omega arith in r) in
    let later : (j : ℕ) → f (k + j) ≡ byte_of new j = λ j.
    ap (λ (w : MLine). byte_of w w.pos) (place-yes a (c ∷ []) (k + j) (omega arith)) ∙ ap (byte_of new) (let r : new.pos + (k + j - (0 + k)) ≡ j = omega (arith, z) in r) in
    let lx = length-take k g.ins in
    let ly = length-drop k g.ins in
    o
    ∙ ap (λ (ss : List Stream). xor_from (byte_in ss) 0 g.ins) e
    ∙ ap (xor_from f 0) (sym (take-append-drop k g.ins))
    ∙ xor_from-append f 0 x y
    ∙ ap₂ ◌++◌
    (xor_from-agree f (byte_of l) 0 l.pos x (λ j q. ap f (let r : 0 + j ≡ j = omega arith in r) ∙ old j (omega (arith, q, lx))))
    (xor_from-agree f (byte_of new) (0 + length x) 0 y
    (λ j q. let r : 0 + length x + j ≡ k + j = omega (arith, q, lx, ly) in ap f r ∙ later j ∙ ap (byte_of new) (let r : j ≡ 0 + j = omega arith in r)))

-- Since its open with a key and an IV the line was given one change, at position p: the old stream's bytes up to it, and the new one's after it.
pub opened-then-changed : (xs : List Made) → OneStream xs → AllBytes xs → (i c p : ℕ) (key iv key' iv' : List ℕ) → given_to i xs ≡ then-changed (of-key c key iv) p key' iv' →
    (log_of i xs).outs
    ≡ xor_from (byte_of (opened c key iv)) 0 (take p (log_of i xs).ins) ++ xor_from (byte_of (opened c (key_for c key') (iv_for c iv'))) 0 (drop p (log_of i xs).ins)
unfolding opened
opened-then-changed xs s b i c p key iv key' iv' e =
    one-change-log (log_of i xs) (opened c key iv) (opened c (key_for c key') (iv_for c iv')) p (s.streams i).outputs (streams-given xs s b i ∙ ap streams_by e) refl
    ∙ ap (λ (k : ℕ). xor_from (byte_of (opened c key iv)) 0 (take k (log_of i xs).ins) ++ xor_from (byte_of (opened c (key_for c key') (iv_for c iv'))) 0 (drop k (log_of i xs).ins)) (let r : p - 0 ≡ p = omega arith in r)

-- And of a line that was taken up from an image, which stood at n.
pub resumed-then-changed : (xs : List Made) → OneStream xs → AllBytes xs → (i n p : ℕ) (image key iv : List ℕ) → given_to i xs ≡ then-changed (of_image image) p key iv → n ≡ (image_line image).n →
    (log_of i xs).outs
    ≡ xor_from (byte_of (based (image_line image))) n (take (p - n) (log_of i xs).ins)
    ++ xor_from (byte_of (opened (image_line image).cipher (key_for (image_line image).cipher key) (iv_for (image_line image).cipher iv))) 0 (drop (p - n) (log_of i xs).ins)
unfolding opened based
resumed-then-changed xs s b i n p image key iv e en =
    let l = based (image_line image) in
    let c = (image_line image).cipher in
    one-change-log (log_of i xs) l (opened c (key_for c key) (iv_for c iv)) p (s.streams i).outputs (streams-given xs s b i ∙ ap streams_by e) refl
    ∙ ap (λ (k : ℕ). xor_from (byte_of l) k (take (p - k) (log_of i xs).ins) ++ xor_from (byte_of (opened c (key_for c key) (iv_for c iv))) 0 (drop (p - k) (log_of i xs).ins)) (sym en)

-- ---- parked and taken up

module _ (xs : List Made) (o : OneStream xs) (b : AllBytes xs) {before sofar : List Made} {p x : Made} (s : Stands sofar x xs) (t : Stands before p sofar) (i j : ℕ) (image : List ℕ)
    (dp : did p ≡ did-park i image) (dx : did x ≡ did-resume j image) where
  -- A line that is taken up, on whichever line, is seen as the line was that was parked (after the list before).
  pub taken-up : line_on x.card j ≡ line_on (card_after fresh_card before) i
  taken-up =
      let m = machine_after fresh_machine before in
      let k = place xs o.machine-is b (stands-in s t) in
      let w = told_at xs o.machine-is b (stands-in s t) (did-park i image) dp in
      let l = line_at m i in
      let z = sized l (good-get k.at.good.lines i) w.up w.none-due in
      o.from-image s j image dx
      ∙ ap image_line w.is
      ∙ image-back i (number_now m.parks i) (let b = w.below in omega (arith, b)) (number_word m.parks i w.left) (shown l) z
      ∙ sym (ap (λ (c : Seen). line_on c i) k.at.card ∙ seen_at m i)

  -- A call on line i that was parked (after the list before) and taken up on line j, which has begun no other stream since then, is one stream: the parked line's own goes on.
  pub one-call : (log_of j xs).streams ≡ (log_of j (sofar ++ (x ∷ []))).streams →
      (log_of i before).outs ++ (log_of j xs).outs ≡ xor_from (key_byte (log_of i before)) 0 ((log_of i before).ins ++ (log_of j xs).ins)
  unfolding along byte_of
  one-call e =
      let g = log_of i before in
      let g' = log_of j xs in
      let l' = based (image_line image) in
      let k = place xs o.machine-is b (stands-in s t) in
      let w = told_at xs o.machine-is b (stands-in s t) (did-park i image) dp in
      let l = line_at (machine_after fresh_machine before) i in
      let h = k.at.held i in
      let start : log_of j (sofar ++ (x ∷ [])) ≡ begun l' = log-last j sofar x dx ∙ on-its-line j _ _ in
      let on : GoesOn (bare l) l' =
      subst (GoesOn (bare l)) (ap standing start ∙ standing-begun l')
      (subst (λ (y : MLine). GoesOn y (standing (log_of j (sofar ++ (x ∷ []))))) (held-here l g h) (o.goes_on s t i j image dp dx)) in
      let streams : g'.streams ≡ (begun l').streams = e ∙ ap (λ (y : Log). y.streams) start in
      let same : (n : ℕ) → byte_of l' (l'.pos + n) ≡ byte_of l (l.pos + n) = λ n.
      let z = on.position in on.bytes (l'.pos + n) (omega (arith, z)) ∙ ap (λ (y : ℕ). byte_of l (y + n)) z in
      let bytes : (n : ℕ) → byte_in (begun l').streams n ≡ key_byte g (length g.ins + n) = λ n.
      ap (λ (y : MLine). byte_of y y.pos) (place-begun l' n)
      ∙ same n
      ∙ ap (λ (y : MLine). byte_of y y.pos) (sym (ap bare (moved-bare l n w.none-due)) ∙ h.place n) in
      ap₂ ◌++◌ h.outputs
      ((o.streams j).outputs
      ∙ ap (λ (ss : List Stream). xor_from (byte_in ss) 0 g'.ins) streams
      ∙ xor_from-agree (byte_in (begun l').streams) (key_byte g) 0 (0 + length g.ins) g'.ins (λ n _. bytes (0 + n) ∙ ap (key_byte g) (let r : length g.ins + (0 + n) ≡ 0 + length g.ins + n = omega arith in r)))
      ∙ sym (xor_from-append (key_byte g) 0 g.ins g'.ins)
