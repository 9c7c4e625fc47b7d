-- Each line's log, call by call: as far on as may be, the machine's line is where the log's streams say, and the outputs joined are the inputs joined, each byte XORed with its stream's. The
-- laws of a line that moves on are all that this needs.
-- Assumes nothing.
use Prim.Native.Nat.{ℕ, zero, suc, ◌+◌, ◌-◌, ◌/◌, ◌<◌, ◌≤◌}
use mathlib.Core.Path.{◌≡◌, refl, ap, ap₂, sym, ◌∙◌, subst}
use mathlib.Core.List.{List, [], ◌∷◌, ◌++◌, map}
use mathlib.Core.Bool.{Bool, true, false}
use lib.ListN.{length, get_or, take, set, length-append}
use lib.Seq.{length-take-le, get_or-set_same, get_or-set_other}
use lib.Dec.{eqb}
use native.Mathlib.Omega.{arith}
use borrow.Author.Tests.{le-leb, lt-leb, eqb-true, eqb-false}
use Rattle.words.specs.Tests.{pick}
use Rattle.keystream.specs.Stream.{xor_from}
use Rattle.keystream.proofs.Laws.{xor_from-append, xor_from-agree}
use Rattle.card_moves.specs.Moves.{comes_due}
use Rattle.card_moves.proofs.Due.{due-told, not-told}
use Rattle.machine.specs.Machine.{MLine, Machine, plain, line_at, idle, idle_line, gen_of, unit_at, state_of, byte_of, shown, based, along, renewed, moved, enciphered, changed, opened, loaded_line, started_line, image_line, iv_for, stream_of, Call, Effect, refuse, put, crypt, park, resume, change, start, perform, seen}
use Rattle.machine.specs.Calls.{line_on}
use Rattle.lists.specs.Logs.{Did, did_nothing, did-open, did-crypt, did-park, did-resume, did-close, did-change, did-load, did-start, Stream, Log, begun, joined, place_at, standing, key_byte, new_stream, noted}
use Rattle.lists.specs.OneStream.{Streamed}
use Rattle.machine.proofs.Moves.{along-none, moved-past, moved-short, moved-bare, moved_none, moved-add, byte_here, enciphered-bytes}
use Rattle.machine.proofs.Lines.{shown-idle}
use Rattle.lists.proofs.Explained.{Names, Explained, was-refused, was-open, was-crypt, was-park, was-resume, was-close, was-change, was-load, was-start}

-- ---- the place of a joined byte

pub place-yes : (s : Stream) (rest : List Stream) (j : ℕ) → s.since ≤ j → place_at (s ∷ rest) j ≡ along s.line (j - s.since)
unfolding place_at
place-yes s rest j h = ap (λ (b : Bool). pick b (along s.line (j - s.since)) (place_at rest j)) (le-leb s.since j h)

pub place-no : (s : Stream) (rest : List Stream) (j : ℕ) → j < s.since → place_at (s ∷ rest) j ≡ place_at rest j
unfolding place_at
place-no s rest j h = ap (λ (b : Bool). pick b (along s.line (j - s.since)) (place_at rest j)) (lt-leb s.since j h)

-- of a log that has just begun
pub place-begun : (l : MLine) (j : ℕ) → place_at (begun l).streams j ≡ along l j
place-begun l j = place-yes (record { since = 0; line = l }) [] j (omega arith) ∙ ap (along l) (let e : j - 0 ≡ j = omega arith in e)

pub standing-begun : (l : MLine) → standing (begun l) ≡ l
standing-begun l = place-begun l 0 ∙ along-none l

-- ---- a line and its log

-- a line without the change that waits
abbrev pub bare : MLine → MLine
bare l = plain l.mode l.cipher l.base l.from l.pos

pub record Held (l : MLine) (g : Log) : Type 0 where
  pub place : (j : ℕ) → bare (moved l j) ≡ place_at g.streams (length g.ins + j)
  pub outputs : g.outs ≡ xor_from (key_byte g) 0 g.ins

-- where the log stands
pub held-here : (l : MLine) (g : Log) → Held l g → standing g ≡ bare l
held-here l g h =
    ap (place_at g.streams) (let e : length g.ins ≡ length g.ins + 0 = omega arith in e) ∙ sym (h.place 0) ∙ ap bare (moved_none l)

-- ---- a stream that begins

begun-held : (mode c : ℕ) (base : List ℕ) (from pos : ℕ) → Held (plain mode c base from pos) (begun (plain mode c base from pos))
unfolding along xor_from
begun-held mode c base from pos =
    let l = plain mode c base from pos in
    record {
      place = λ j. ap bare (moved-bare l j refl) ∙ ap (along l) (let e : j ≡ 0 + j = omega arith in e) ∙ sym (place-begun l (0 + j));
      outputs = refl;
    }

pub idle-held : Held idle (begun idle)
idle-held = begun-held 0 0 _ 0 0

opened-held : (c : ℕ) (key iv : List ℕ) → Held (opened c key iv) (begun (opened c key iv))
unfolding opened
opened-held c key iv = begun-held 1 c _ 0 0

loaded-held : (c : ℕ) (key : List ℕ) → Held (loaded_line c key) (begun (loaded_line c key))
unfolding loaded_line
loaded-held c key = begun-held 2 c _ 0 0

-- a start takes cipher and key from the line, which has those that its log stands at
started-held : (l : MLine) (g : Log) → Held l g → (iv : List ℕ) → Held (started_line l (iv_for l.cipher iv)) (begun (started_line (standing g) (iv_for (standing g).cipher iv)))
unfolding started_line
started-held l g h iv =
    subst (λ (x : MLine). Held (started_line l (iv_for l.cipher iv)) (begun (started_line x (iv_for x.cipher iv)))) (sym (held-here l g h)) (begun-held 1 l.cipher _ 0 0)

resumed-held : (image : List ℕ) → Held (based (image_line image)) (begun (based (image_line image)))
unfolding based image_line
resumed-held image = begun-held 1 _ _ _ _

-- ---- a crypt

module _ (l : MLine) (g : Log) (h : Held l g) where
  -- the log's bytes from where it stands are the line's
  through : (text : List ℕ) → enciphered l text ≡ xor_from (key_byte g) (length g.ins) text
  unfolding byte_of
  through text =
      enciphered-bytes l text
      ∙ xor_from-agree (λ j. byte_here (moved l j)) (key_byte g) 0 (length g.ins) text
      (λ i q. ap (λ (k : ℕ). byte_here (moved l k)) (let e : 0 + i ≡ i = omega arith in e) ∙ ap byte_here (h.place i))

  crypt-held : (text : List ℕ) → Held (moved l (length text)) (joined g text (enciphered l text))
  crypt-held text =
      record {
        place =
            λ j. ap bare (moved-add l (length text) j) ∙ h.place (length text + j)
            ∙ ap (place_at g.streams) (let e : length g.ins + (length text + j) ≡ length (g.ins ++ text) + j = omega (arith, length-append g.ins text) in e);
        outputs =
            ap₂ ◌++◌ h.outputs (through text ∙ ap (λ (k : ℕ). xor_from (key_byte g) k text) (let e : length g.ins ≡ 0 + length g.ins = omega arith in e))
            ∙ sym (xor_from-append (key_byte g) 0 g.ins text);
      }

  crypted-held : (n : ℕ) (text : List ℕ) → n ≤ length text → Held (moved l n) (joined g (take n text) (enciphered l (take n text)))
  crypted-held n text q =
      subst (λ (k : ℕ). Held (moved l k) (joined g (take n text) (enciphered l (take n text)))) (length-take-le n text q) (crypt-held (take n text))

-- ---- a change

module _ (l : MLine) (g : Log) (h : Held l g) (none : l.due ≡ 0) (p : ℕ) (s : List ℕ) (le : l.pos ≤ p) where
  new : Stream
  new = record { since = length g.ins + (p - l.pos); line = plain l.mode l.cipher s 0 0 }

  waiting-there : MLine
  waiting-there = record { mode = l.mode; cipher = l.cipher; base = l.base; from = l.from; pos = l.pos; due = p; waiting = s }

  -- before it the old streams stand, after it the new one
  old-place : (j : ℕ) → l.pos + j < p → place_at (new ∷ g.streams) (length g.ins + j) ≡ bare (along l j)
  unfolding new
  old-place j q = place-no new g.streams (length g.ins + j) (omega arith) ∙ sym (h.place j) ∙ ap bare (moved-bare l j none)

  new-place : (j : ℕ) → p ≤ l.pos + j → place_at (new ∷ g.streams) (length g.ins + j) ≡ along (renewed l s) (l.pos + j - p)
  unfolding new renewed
  new-place j q =
      place-yes new g.streams (length g.ins + j) (omega arith)
      ∙ ap (along (renewed l s)) (let e : length g.ins + j - (length g.ins + (p - l.pos)) ≡ l.pos + j - p = omega arith in e)

  waits : (j : ℕ) → (l.pos ≡ p → ⊥) → bare (moved waiting-there j) ≡ place_at (new ∷ g.streams) (length g.ins + j)
  unfolding along renewed waiting-there
  waits j ne = go (comes_due l.pos p j) refl
    where
      go : (b : Bool) → comes_due l.pos p j ≡ b → bare (moved waiting-there j) ≡ place_at (new ∷ g.streams) (length g.ins + j)
      go true e = let d = due-told l.pos p j e in ap bare (moved-past waiting-there j d.0 d.1) ∙ sym (new-place j d.1)
      go false e =
          let d = not-told l.pos p j e in
          let lt : l.pos < p = omega (arith, le, ne) in
          ap bare (moved-short waiting-there j d) ∙ sym (old-place j (d lt))

  at_once : (j : ℕ) → l.pos ≡ p → bare (moved (renewed l s) j) ≡ place_at (new ∷ g.streams) (length g.ins + j)
  unfolding along renewed
  at_once j e =
      ap bare (moved-bare (renewed l s) j refl)
      ∙ ap (along (renewed l s)) (let z : j ≡ l.pos + j - p = omega (arith, e) in z)
      ∙ sym (new-place j (omega (arith, e)))

  changed-place : (j : ℕ) → bare (moved (changed l p s) j) ≡ place_at (new ∷ g.streams) (length g.ins + j)
  unfolding changed waiting-there
  changed-place j = go (eqb p l.pos) refl
    where
      go : (b : Bool) → eqb p l.pos ≡ b → bare (moved (pick b (renewed l s) waiting-there) j) ≡ place_at (new ∷ g.streams) (length g.ins + j)
      go true e = at_once j (sym (eqb-true p l.pos e))
      go false e = waits j (λ q. eqb-false p l.pos e (sym q))

  new-log : Log
  new-log = record { streams = new ∷ g.streams; ins = g.ins; outs = g.outs }

  -- the log that notes the change
  log_is : new_stream g p s ≡ new-log
  unfolding new new-log
  log_is = ap (λ (x : MLine). record { streams = record { since = length g.ins + (p - x.pos); line = plain x.mode x.cipher s 0 0 } ∷ g.streams; ins = g.ins; outs = g.outs }) (held-here l g h)

  change-held : Held (changed l p s) (new_stream g p s)
  unfolding new new-log
  change-held =
      subst (Held (changed l p s)) (sym log_is)
      (record {
        place = changed-place;
        outputs =
            h.outputs
            ∙ xor_from-agree (key_byte g) (key_byte new-log) 0 0 g.ins (λ i q. ap byte_here (sym (place-no new g.streams (0 + i) (omega arith))));
      })

-- by the key and the IV that it was given, of which the log's line says how much the cipher takes
changed-held : (l : MLine) (g : Log) → Held l g → l.due ≡ 0 → (p : ℕ) (key iv : List ℕ) → l.pos ≤ p →
    Held (changed l p (stream_of l.cipher key iv)) (new_stream g p (stream_of (standing g).cipher key iv))
changed-held l g h none p key iv le =
    subst (λ (c : ℕ). Held (changed l p (stream_of l.cipher key iv)) (new_stream g p (stream_of c key iv))) (sym (ap (λ (x : MLine). x.cipher) (held-here l g h)))
    (change-held l g h none p (stream_of l.cipher key iv) le)

-- ---- a call keeps them together

set-held : (ls : List MLine) (j : ℕ) (l : MLine) (g' g : Log) (i : ℕ) (b : Bool) → eqb j i ≡ b → j < length ls → (j ≡ i → Held l g') → Held (get_or ls i idle) g →
    Held (get_or (set ls j l) i idle) (pick b g' g)
set-held ls j l g' g i true e h f s =
    let q = eqb-true j i e in
    subst (λ (x : MLine). Held x g') (sym (ap (λ (k : ℕ). get_or (set ls j l) k idle) (sym q) ∙ get_or-set_same ls j l idle h)) (f q)
set-held ls j l g' g i false e h f s =
    subst (λ (x : MLine). Held x g) (sym (get_or-set_other ls j i l idle (λ q. eqb-false j i e (sym q)))) s

module _ (m : Machine) (eight : length m.lines ≡ 8) (a : Call) (i : ℕ) (g : Log) (h : Held (line_at m i) g) where
  set-one : (j : ℕ) (l : MLine) (g' : Log) → Names a j → (j ≡ i → Held l g') → Held (get_or (set m.lines j l) i idle) (pick (eqb j i) g' g)
  set-one j l g' n f = set-held m.lines j l g' g i (eqb j i) refl (let b = n.below in omega arith) f h

  at : (j : ℕ) → j ≡ i → Held (line_at m j) g
  at j e = subst (λ (x : ℕ). Held (line_at m x) g) (sym e) h

  pub effect-held : (e : Effect) (d : Did) → Explained m a e d → Held (line_at (perform m a.text e).machine i) (noted i g d)
  effect-held (refuse k) did_nothing was-refused = h
  effect-held (put j _ size) (did-open _ c key iv) (was-open n) = set-one j _ _ n (λ _. opened-held c key iv)
  effect-held (crypt j k size) (did-crypt _ _ _) (was-crypt n q) = set-one j _ _ n (λ e. crypted-held (line_at m j) g (at j e) k a.text q)
  effect-held (park j size) (did-park _ _) (was-park n q z r) = set-one j idle (begun idle) n (λ _. idle-held)
  effect-held (resume j _ k size) (did-resume _ image) (was-resume n h) = set-one j _ _ n (λ _. resumed-held image)
  effect-held (put j _ size) (did-close _) (was-close n) = set-one j idle (begun idle) n (λ _. idle-held)
  effect-held (put j _ size) (did-load _ c key) (was-load n f k) = set-one j _ _ n (λ _. loaded-held c key)
  effect-held (start j _ size) (did-start _ iv) (was-start n up) = set-one j _ _ n (λ e. started-held (line_at m j) g (at j e) iv)
  effect-held (change j p _ size) (did-change _ _ key iv) (was-change n up z le) = set-one j _ _ n (λ e. changed-held (line_at m j) g (at j e) z p key iv le)
  effect-held _ _ x = elim x [ ]

-- ---- what is seen of a line

pub seen_at : (m : Machine) (i : ℕ) → line_on (seen m) i ≡ shown (line_at m i)
seen_at m i = go m.lines i
  where
    go : (ls : List MLine) (i : ℕ) → get_or (map shown ls) i idle_line ≡ shown (get_or ls i idle)
    go [] i = sym shown-idle
    go (l ∷ ls) zero = refl
    go (l ∷ ls) (suc i) = go ls i

pub held-streamed : (l : MLine) (g : Log) → Held l g → Streamed (shown l) g
unfolding shown state_of unit_at
held-streamed l g h =
    let e = sym (held-here l g h) in
    record {
      mode = ap (λ (x : MLine). x.mode) e;
      cipher = ap (λ (x : MLine). x.cipher) e;
      position = ap (λ (x : MLine). x.pos) e;
      state = ap (λ (x : MLine). state_of x (l.pos / (gen_of l.cipher).unit)) e;
      outputs = h.outputs;
    }
