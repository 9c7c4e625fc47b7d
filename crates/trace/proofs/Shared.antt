-- Two lists that share what decisions read leave the same trace: a decision is the same but for the states of the lines that it puts, and what is done changes what is public alike.
-- Assumes nothing.
use mathlib.Core.Path.{◌≡◌, refl, ap, ap₂, sym, ◌∙◌, subst}
use mathlib.Core.Bool.{Bool, true, false}
use mathlib.Core.List.{List, [], ◌∷◌, map}
use Prim.Native.Nat.{ℕ, ◌+◌, ◌-◌}
use native.Mathlib.Omega.{arith}
use lib.Dec.{eqb}
use lib.ListN.{length, take, set, length-take}
use Rattle.std.specs.Prelude.{Result, Ok, Err}
use Rattle.words.specs.Tests.{pick}
use Rattle.card_moves.specs.Moves.{comes_due}
use Rattle.command.specs.declared.Command.{Command}
use Rattle.command.specs.declared.Command.TheVariants.{Tray, Own, Crypt, Park, Resume, Close, Change, Load, Start}
use Rattle.command.specs.declared.Refusal.{Refusal}
use Rattle.command.specs.Rows.{Row, unless}
use Rattle.command.specs.Decode.{decode_of, operands_of}
use Rattle.machine.specs.Machine.{MLine, Line, Machine, line_at, with_line, idle, shown, opened, loaded_line, started_line, along, renewed, moved, changed, image_of, image_length, Call, View, view_of, Public, public, view_at, Facts, facts_of, Effect, refuse, put, crypt, park, change, start, refuse_if, refusals, effect_of, decided, of_decoded, decide, Stepped, perform, step, shows, seen}
use Rattle.machine.specs.Parks.{parked}
use Rattle.machine.specs.Calls.{made_of, machine_run}
use Rattle.machine.proofs.Moves.{enciphered-length}
use Rattle.machine.proofs.Simulation.{view-get, map-set}
use Rattle.trace.specs.Trace.{view_seen, public_seen, traced, Shares, AllShare, none, call}

-- ---- decisions

-- two effects that are the same but for the states of a line, on data of these
data SameEffect (text text' : List ℕ) : Effect → Effect → Type 0 where
  same-refuse : {k : ℕ} → SameEffect text text' (refuse k) (refuse k)
  same-put : {i size : ℕ} {l l' : MLine} → view_of l ≡ view_of l' → SameEffect text text' (put i l size) (put i l' size)
  same-crypt : {i n size : ℕ} → length text ≡ length text' → SameEffect text text' (crypt i n size) (crypt i n size)
  same-park : {i size : ℕ} → SameEffect text text' (park i size) (park i size)
  same-change : {i p size : ℕ} {s s' : List ℕ} → SameEffect text text' (change i p s size) (change i p s' size)
  same_start : {i size : ℕ} {iv iv' : List ℕ} → SameEffect text text' (start i iv size) (start i iv' size)

module _ (text text' : List ℕ) where
  row : (b : Bool) (k : ℕ) {e e' : Effect} → SameEffect text text' e e' → SameEffect text text' (refuse_if b k e) (refuse_if b k e')
  unfolding refuse_if
  row true k h = same-refuse
  row false k h = h

  rows : (rs : List Row) {e e' : Effect} → SameEffect text text' e e' → SameEffect text text' (unless refuse_if rs e) (unless refuse_if rs e')
  rows [] h = h
  rows (r ∷ rs) h = row r.given r.number (rows rs h)

module _ (v : Public) (a b : Call) where
  same_effect : (c : Command) → ((i : ℕ) → c ≡ Resume i → ⊥) → length a.text ≡ length b.text → SameEffect a.text b.text (effect_of c v a) (effect_of c v b)
  unfolding opened loaded_line view_of
  same_effect (Tray i c k) f e = same-put refl
  same_effect (Own i c) f e = same-put refl
  same_effect (Crypt i n) f e = same-crypt e
  same_effect (Park i) f e = same-park
  same_effect (Resume i) f e = absurd (f i refl)
  same_effect (Close i) f e = same-put refl
  same_effect (Change i k p) f e = same-change
  same_effect (Load i c k) f e = same-put refl
  same_effect (Start i) f e = same_start

  same-decided : (c : Command) → ((i : ℕ) → c ≡ Resume i → ⊥) → facts_of (operands_of c) v a ≡ facts_of (operands_of c) v b → SameEffect a.text b.text (decided c v a) (decided c v b)
  unfolding decided
  same-decided c f e =
      subst (λ (x : Facts). SameEffect a.text b.text (decided c v a) (unless refuse_if (refusals (operands_of c) v x) (effect_of c v b))) e
      (rows a.text b.text (refusals (operands_of c) v (facts_of (operands_of c) v a)) (same_effect c f (ap (λ (x : Facts). x.text_count) e)))

  same-decoded : (d : Result Command Refusal) → ((c : Command) → d ≡ Ok c → facts_of (operands_of c) v a ≡ facts_of (operands_of c) v b) → ((i : ℕ) → d ≡ Ok (Resume i) → ⊥) →
      SameEffect a.text b.text (of_decoded d v a) (of_decoded d v b)
  same-decoded (Err e) s f = same-refuse
  same-decoded (Ok c) s f = same-decided c (λ i e. f i (ap Ok e)) (s c refl)

  same-decide : Shares v a b → SameEffect a.text b.text (decide v a) (decide v b)
  unfolding decide
  same-decide h =
      subst (λ (d : Result Command Refusal). SameEffect a.text b.text (of_decoded (decode_of a.command) v a) (of_decoded d v b)) h.read
      (same-decoded (decode_of a.command) h.facts h.no-resume)

-- ---- what is public of a line

seen-views : (ls : List MLine) → map view_seen (map shown ls) ≡ map view_of ls
unfolding shown view_of
seen-views [] = refl
seen-views (l ∷ ls) = ap (◌∷◌ (view_of l)) (seen-views ls)

-- what is seen of a machine shows what is public of it
seen-public : (m : Machine) → public_seen (seen m) ≡ public m
seen-public m = λ j. record { lines = seen-views m.lines j; parks = m.parks }

view-pick : (b : Bool) (l l' : MLine) → view_of (pick b l l') ≡ pick b (view_of l) (view_of l')
view-pick true l l' = refl
view-pick false l l' = refl

-- a line that moves on, and one that is to change, by what is public of it
abbrev moved_view : View → ℕ → View
moved_view w k =
    pick (comes_due w.pos w.due k) (record { mode = w.mode; cipher = w.cipher; pos = 0 + (w.pos + k - w.due); due = 0 })
    (record { mode = w.mode; cipher = w.cipher; pos = w.pos + k; due = w.due })

view-moved : (l : MLine) (k : ℕ) → view_of (moved l k) ≡ moved_view (view_of l) k
unfolding view_of moved along renewed
view-moved l k = view-pick (comes_due l.pos l.due k) _ _

abbrev changed_view : View → ℕ → View
changed_view w p =
    pick (eqb p w.pos) (record { mode = w.mode; cipher = w.cipher; pos = 0; due = 0 }) (record { mode = w.mode; cipher = w.cipher; pos = w.pos; due = p })

view-changed : (l : MLine) (p : ℕ) (s : List ℕ) → view_of (changed l p s) ≡ changed_view (view_of l) p
unfolding view_of changed renewed
view-changed l p s = view-pick (eqb p l.pos) _ _

abbrev started_view : View → View
started_view w = record { mode = 1; cipher = w.cipher; pos = 0; due = 0 }

view-started : (l : MLine) (iv : List ℕ) → view_of (started_line l iv) ≡ started_view (view_of l)
unfolding view_of started_line
view-started l iv = refl

-- ---- what is done

-- the same is public after it, and code, counts and the number of bytes written are the same
record SameStep (s s' : Stepped) : Type 0 where
  pub public-is : public s.machine ≡ public s'.machine
  pub code : s.outcome.code ≡ s'.outcome.code
  pub used-command : s.outcome.used-command ≡ s'.outcome.used-command
  pub used-data : s.outcome.used-data ≡ s'.outcome.used-data
  pub written : length s.outcome.output ≡ length s'.outcome.output

-- the same written bytes' number of two accepted calls that use as much
accepted : {m m' : Machine} (size n : ℕ) {o o' : List ℕ} → public m ≡ public m' → length o ≡ length o' →
    SameStep (record { machine = m; outcome = record { code = 0; used-command = size; used-data = n; output = o } })
    (record { machine = m'; outcome = record { code = 0; used-command = size; used-data = n; output = o' } })
accepted size n e w = record { public-is = e; code = refl; used-command = refl; used-data = refl; written = w }

image-length : (i k : ℕ) (l : Line) → length (image_of i k l) ≡ image_length
unfolding image_of
image-length i k l = refl

module _ (m m' : Machine) (same : public m ≡ public m') where
  put_same : (i : ℕ) (l l' : MLine) → view_of l ≡ view_of l' → public (with_line m i l) ≡ public (with_line m' i l')
  put_same i l l' e =
      (λ j. record { lines = map-set view_of m.lines i l j; parks = m.parks })
      ∙ ap₂ (λ (v : Public) (w : View). record { lines = set v.lines i w; parks = v.parks }) same e
      ∙ sym (λ j. record { lines = map-set view_of m'.lines i l' j; parks = m'.parks })

  view-same : (i : ℕ) → view_of (line_at m i) ≡ view_of (line_at m' i)
  view-same i = sym (view-get m.lines i) ∙ ap (λ (v : Public). view_at v i) same ∙ view-get m'.lines i

  same-perform : (text text' : List ℕ) (e e' : Effect) → SameEffect text text' e e' → SameStep (perform m text e) (perform m' text' e')
  same-perform text text' (refuse k) _ same-refuse = record { public-is = same; code = refl; used-command = refl; used-data = refl; written = refl }
  same-perform text text' (put i l size) (put _ l' _) (same-put h) = accepted size 0 (put_same i l l' h) refl
  same-perform text text' (crypt i n size) _ (same-crypt q) =
      accepted size n (put_same i _ _ (view-moved (line_at m i) n ∙ ap (λ (w : View). moved_view w n) (view-same i) ∙ sym (view-moved (line_at m' i) n)))
      (enciphered-length (line_at m i) (take n text)
      ∙ (let z : length (take n text) ≡ length (take n text') = omega (arith, length-take n text, length-take n text', q) in z)
      ∙ sym (enciphered-length (line_at m' i) (take n text')))
  same-perform text text' (park i size) _ same-park =
      accepted size 0 (ap (λ (v : Public). record { lines = v.lines; parks = parked v.parks i }) (put_same i idle idle refl))
      (image-length i _ (shown (line_at m i)) ∙ sym (image-length i _ (shown (line_at m' i))))
  same-perform text text' (change i p s size) (change _ _ s' _) same-change =
      accepted size 0 (put_same i _ _ (view-changed (line_at m i) p s ∙ ap (λ (w : View). changed_view w p) (view-same i) ∙ sym (view-changed (line_at m' i) p s'))) refl
  same-perform text text' (start i iv size) (start _ iv' _) same_start =
      accepted size 0 (put_same i _ _ (view-started (line_at m i) iv ∙ ap started_view (view-same i) ∙ sym (view-started (line_at m' i) iv'))) refl
  same-perform text text' _ _ x = elim x [ ]

  same_step : (a b : Call) → Shares (public m) a b → SameStep (step m a) (step m' b)
  unfolding step
  same_step a b h =
      same-perform a.text b.text (decide (public m) a) (decide (public m') b)
      (subst (λ (v : Public). SameEffect a.text b.text (decide (public m) a) (decide v b)) same (same-decide (public m) a b h))

  same-traced : (a b : Call) → Shares (public m) a b → traced (made_of a (shows (step m a))) ≡ traced (made_of b (shows (step m' b)))
  same-traced a b h =
      let s = same_step a b h in
      let c = seen-public (step m a).machine ∙ s.public-is ∙ sym (seen-public (step m' b).machine) in
      λ j. record { code = s.code j; used-command = s.used-command j; used-data = s.used-data j; written = s.written j; card = c j }

-- ---- lists

-- Two lists on machines of which the same is public.
pub same-trace : {m : Machine} {calls calls' : List Call} → AllShare m calls calls' → (m' : Machine) → public m ≡ public m' → map traced (machine_run m calls) ≡ map traced (machine_run m' calls')
same-trace none m' e = refl
same-trace (call {m = m} {a = a} {b = b} h t) m' e = ap₂ ◌∷◌ (same-traced m m' e a b h) (same-trace t (step m' b).machine (same_step m m' e a b h).public-is)
