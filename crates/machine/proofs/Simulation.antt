-- The card's step is the machine's, for every machine that a list of calls leads to: each effect does the same to a line and to the line that starts anew from what is seen of it, and keeps
-- every line good.
-- Assumes nothing.
use mathlib.Core.Path.{◌≡◌, refl, ap, ap₂, sym, ◌∙◌, subst}
use mathlib.Core.Bool.{Bool, true, false, not}
use mathlib.Core.List.{List, [], ◌∷◌, map}
use Prim.Native.Nat.{ℕ, zero, suc, ◌+◌, ◌*◌, ◌≤◌}
use lib.Dec.{ltb}
use lib.ListN.{length, get_or, take, drop, set, replicate, length-take, length-drop}
use lib.Seq.{length-take-le}
use native.Mathlib.Omega.{arith}
use borrow.Author.Tests.{ltb-false, eqb-true, not-false}
use Rattle.std.specs.Prelude.{Result, Ok, Err}
use Rattle.words.specs.Tests.{pick}
use Rattle.words.specs.Lists.{All, Byte}
use Rattle.card_sizes.specs.Sizes.{key_length}
use Rattle.words.proofs.Ranges.{all_drop}
use Rattle.ciphers.specs.Table.{is_cipher, cipher_at, mugi}
use Rattle.ciphers.specs.Fit.{Fit}
use Rattle.ciphers.proofs.States.{all_take}
use Rattle.ciphers.proofs.Rows.{key_fits}
use Rattle.words.proofs.Tests.{both_left, both_true}
use Rattle.command.specs.Rows.{either}
use Rattle.command.proofs.Rows.{either_left, either-right}
use Rattle.command.specs.declared.Cipher.{Cipher}
use Rattle.command.specs.declared.Cipher.TheVariants.{Zuc, Rabbit, Snow128, Snow256, Kcipher2, Mugi}
use Rattle.command.specs.declared.Command.{Command}
use Rattle.command.specs.declared.Command.TheVariants.{Tray, Own, Crypt, Park, Resume, Close, Change, Load, Start}
use Rattle.command.specs.declared.Refusal.{Refusal}
use Rattle.command.specs.Decode.{decode_of, number_of, operands_of}
use Rattle.card_moves.specs.Moves.{position_on}
use Rattle.machine.specs.Machine.{Line, MLine, Machine, idle, shown, based, moved, enciphered, changed, started_line, image_of, image_in, from_ok, line_at, seen, back, line_count, View, no_view, view_of, public, view_at, is_open, is_loaded, waits, limit, key_field, iv_field, key_for, blank_key, stream_of, Call, Effect, refuse, put, crypt, park, resume, change, start, effect_of, of_decoded, decide, answer, perform, step, shows, card_step, fresh_machine, fresh_card}
use Rattle.machine.specs.Parks.{fresh_parks, number_now, parked, taken, parks_ok}
use Rattle.machine.specs.Calls.{CallBytes}
use Rattle.machine.proofs.Lines.{Good, good-idle, shown-idle, shown-based, all-ok, opened-good, loaded-good, started-good, started-same, resumed-good, stream-fit, moved_same, crypted-same, changed-same, moved-good, changed-good, good-behind}
use Rattle.machine.proofs.Parks.{Long, parked-ok, taken-ok, fresh_ok, fresh-long, parked-long, taken-long}
use Rattle.machine.proofs.Rows.{Passed, passed, decided-by}

-- ---- every line

pub data AllGood : List MLine → Type 0 where
  none-good : AllGood []
  more-good : {l : MLine} {ls : List MLine} → Good l → AllGood ls → AllGood (l ∷ ls)

pub good-get : {ls : List MLine} → AllGood ls → (i : ℕ) → Good (get_or ls i idle)
good-get none-good i = good-idle
good-get (more-good g h) zero = g
good-get (more-good g h) (suc i) = good-get h i

pub good-set : {ls : List MLine} → AllGood ls → (i : ℕ) {l : MLine} → Good l → AllGood (set ls i l)
good-set none-good i g = none-good
good-set (more-good x h) zero g = more-good g h
good-set (more-good x h) (suc i) g = more-good x (good-set h i g)

-- a machine that a list of calls leads to
pub record GoodCard (m : Machine) : Type 0 where
  pub lines : AllGood m.lines
  pub parks : parks_ok m.parks ≡ true
  pub long : Long m.parks

pub fresh-good : GoodCard fresh_machine
fresh-good = record { lines = eight 8; parks = fresh_ok; long = fresh-long }
  where
    eight : (k : ℕ) → AllGood (replicate k idle)
    eight zero = none-good
    eight (suc k) = more-good good-idle (eight k)

pub fresh-seen : seen fresh_machine ≡ fresh_card
fresh-seen = λ i. record { lines = replicate line_count (shown-idle i); parks = fresh_parks }

-- ---- what a decision is

pub data Fair (m : Machine) (a : Call) : Effect → Type 0 where
  fair-refuse : {k : ℕ} → Fair m a (refuse k)
  fair-put : {i : ℕ} {l : MLine} {size : ℕ} → Good l → Fair m a (put i l size)
  fair-crypt : {i n size : ℕ} → (line_at m i).mode ≡ 1 → position_on (line_at m i).pos (line_at m i).due n ≤ limit → n ≤ length a.text → Fair m a (crypt i n size)
  fair-park : {i size : ℕ} → (line_at m i).mode ≡ 1 → Fair m a (park i size)
  fair-resume : {i : ℕ} {l : MLine} {k size : ℕ} → Good l → Fair m a (resume i l k size)
  fair-change : {i p : ℕ} {s : List ℕ} {size : ℕ} → (line_at m i).mode ≡ 1 → (line_at m i).pos ≤ p → p ≤ limit → Fit (cipher_at (line_at m i).cipher) s → Fair m a (change i p s size)
  fair-start : {i : ℕ} {iv : List ℕ} {size : ℕ} → (line_at m i).mode ≡ 2 → All Byte iv → Fair m a (start i iv size)

pub view-get : (ls : List MLine) (i : ℕ) → get_or (map view_of ls) i no_view ≡ view_of (get_or ls i idle)
unfolding view_of
view-get [] i = refl
view-get (l ∷ ls) zero = refl
view-get (l ∷ ls) (suc i) = view-get ls i

known : (c : Cipher) → is_cipher (number_of c) ≡ true
known Zuc = refl
known Rabbit = refl
known Snow128 = refl
known Snow256 = refl
known Kcipher2 = refl
known Mugi = refl

module _ (m : Machine) (a : Call) where
  -- what is public of a line is so of the line
  pub of-view : {A : Type 0} (i : ℕ) (f : View → A) → f (view_at (public m) i) ≡ f (view_of (line_at m i))
  of-view i f = ap f (view-get m.lines i)

  pub is_open_lem : (i : ℕ) → not (is_open (public m) i) ≡ false → (line_at m i).mode ≡ 1
  unfolding view_of
  is_open_lem i h = sym (of-view i (λ v. v.mode)) ∙ eqb-true _ 1 (not-false _ h)

  pub is-loaded : (i : ℕ) → not (is_loaded (public m) i) ≡ false → (line_at m i).mode ≡ 2
  unfolding view_of
  is-loaded i h = sym (of-view i (λ v. v.mode)) ∙ eqb-true _ 2 (not-false _ h)

  -- the key that a load takes is of its cipher's length
  pub key-length : (c k : ℕ) → ltb (length a.tray) (key_length * k + key_length) ≡ false → length (key_for c (take key_length (drop (key_length * k) a.tray))) ≡ (cipher_at c).key
  key-length c k h =
      let n = ltb-false (length a.tray) (key_length * k + key_length) h in
      let f = key_fits c in
      let d = length-drop (key_length * k) a.tray in
      let t = length-take key_length (drop (key_length * k) a.tray) in
      length-take-le (cipher_at c).key (take key_length (drop (key_length * k) a.tray)) (omega (arith, n, f, d, t))

  pub none-due : (i : ℕ) → waits (public m) i ≡ false → (line_at m i).due ≡ 0
  unfolding view_of
  none-due i h = sym (of-view i (λ v. v.due)) ∙ eqb-true _ 0 (not-false _ h)

  in-limit : (i n : ℕ) → ltb limit (position_on (view_at (public m) i).pos (view_at (public m) i).due n) ≡ false → position_on (line_at m i).pos (line_at m i).due n ≤ limit
  unfolding view_of
  in-limit i n p = ltb-false limit _ (sym (of-view i (λ v. ltb limit (position_on v.pos v.due n))) ∙ p)

  -- a position that 18 lets pass
  pub not-below : (i p : ℕ) → either (ltb p (view_at (public m) i).pos) (ltb limit p) ≡ false → (line_at m i).pos ≤ p
  unfolding view_of
  not-below i p h = ltb-false p _ (sym (of-view i (λ v. ltb p v.pos)) ∙ either_left (ltb p (view_at (public m) i).pos) (ltb limit p) h)

  not-above : (i p : ℕ) → either (ltb p (view_at (public m) i).pos) (ltb limit p) ≡ false → p ≤ limit
  not-above i p h = ltb-false limit p (either-right (ltb p (view_at (public m) i).pos) (ltb limit p) h)

  fair-effect : CallBytes a → (c : Command) → Passed c (public m) a → Fair m a (effect_of c (public m) a)
  unfolding view_of blank_key
  fair-effect b (Tray i c k) p =
      fair-put
      (opened-good (number_of c) _ _ (known c)
      (all_take (cipher_at (number_of c)).key (all_take 32 (all_drop (32 * k) b.tray)))
      (all_take (cipher_at (number_of c)).iv (all_take 16 (all_drop 4 b.command))))
  fair-effect b (Own i c) p =
      fair-put
      (opened-good (number_of c) _ _ (known c)
      (all_take (cipher_at (number_of c)).key (all_take 32 (all_drop 3 b.command)))
      (all_take (cipher_at (number_of c)).iv (all_take 16 (all_drop 35 b.command))))
  fair-effect b (Crypt i n) p = fair-crypt (is_open_lem i (passed 6 p)) (in-limit i n (passed 13 p)) (ltb-false (length a.text) n (passed 11 p))
  fair-effect b (Park i) p = fair-park (is_open_lem i (passed 6 p))
  fair-effect b (Resume i) p = fair-resume (resumed-good a.command b.command (both_left _ (from_ok (image_in a.command)) (not-false _ (passed 8 p))))
  fair-effect b (Close i) p = fair-put good-idle
  fair-effect b (Change i k q) p =
      let o = operands_of (Change i k q) in
      fair-change (is_open_lem i (passed 6 p)) (not-below i q (passed 18 p)) (not-above i q (passed 18 p))
      (subst (λ (c : ℕ). Fit (cipher_at (line_at m i).cipher) (stream_of c (key_field o a) (iv_field o a))) (sym (of-view i (λ v. v.cipher)))
      (stream-fit (line_at m i).cipher (key_field o a) (iv_field o a) (all_take 32 (all_drop (32 * k) b.tray)) (all_take 16 (all_drop 3 b.command))))
  fair-effect b (Load i c k) p =
      fair-put
      (loaded-good (number_of c) _ (known c) (all_take (cipher_at (number_of c)).key (all_take 32 (all_drop (32 * k) b.tray))) (key-length (number_of c) k (passed 10 p)) (passed 16 p))
  fair-effect b (Start i) p =
      fair-start (is-loaded i (passed 19 p)) (all_take (cipher_at (view_at (public m) i).cipher).iv (all_take 16 (all_drop 2 b.command)))

  fair : CallBytes a → (d : Result Command Refusal) → Fair m a (of_decoded d (public m) a)
  fair b (Err e) = fair-refuse
  fair b (Ok c) = decided-by (Fair m a) (λ k z. fair-refuse) c (public m) a (fair-effect b c)

-- what a call was decided to do
pub fair-step : (m : Machine) (a : Call) → CallBytes a → Fair m a (decide (public m) a)
unfolding decide
fair-step m a b = fair m a b (decode_of a.command)

-- ---- lines, and the lines that start anew from what is seen of them

pub shown-all : (ls : List Line) → map shown (map based ls) ≡ ls
shown-all [] = refl
shown-all (l ∷ ls) = ap₂ ◌∷◌ (shown-based l) (shown-all ls)

views_same : (ls : List MLine) → map view_of (map based (map shown ls)) ≡ map view_of ls
unfolding view_of based shown
views_same [] = refl
views_same (l ∷ ls) = ap (◌∷◌ (view_of l)) (views_same ls)

pub map-set : {X Y : Type 0} (f : X → Y) (xs : List X) (i : ℕ) (y : X) → map f (set xs i y) ≡ set (map f xs) i (f y)
map-set f [] i y = refl
map-set f (x ∷ xs) zero y = refl
map-set f (x ∷ xs) (suc i) y = ap (◌∷◌ (f x)) (map-set f xs i y)

based-idle : based (shown idle) ≡ idle
unfolding based cipher_at mugi
based-idle = ap based shown-idle

get-same : (ls : List MLine) (i : ℕ) → get_or (map based (map shown ls)) i idle ≡ based (shown (get_or ls i idle))
get-same [] i = sym based-idle
get-same (l ∷ ls) zero = refl
get-same (l ∷ ls) (suc i) = get-same ls i

module _ (m : Machine) (good : GoodCard m) (a : Call) (b : CallBytes a) where
  set_same : (i : ℕ) (x y : MLine) → shown x ≡ shown y → map shown (set (map based (map shown m.lines)) i x) ≡ map shown (set m.lines i y)
  set_same i x y e =
      map-set shown (map based (map shown m.lines)) i x
      ∙ ap₂ (λ (k : List Line) (z : Line). set k i z) (shown-all (map shown m.lines)) e
      ∙ sym (map-set shown m.lines i y)

  perform-same : (e : Effect) → Fair m a e → shows (perform (back (seen m)) a.text e) ≡ shows (perform m a.text e)
  perform-same (refuse k) fair-refuse = λ j. record { outcome = answer k 0 0 []; card = record { lines = shown-all (map shown m.lines) j; parks = m.parks } }
  perform-same (put i l size) (fair-put f) = λ j. record { outcome = answer 0 size 0 []; card = record { lines = set_same i l l refl j; parks = m.parks } }
  perform-same (crypt i n size) (fair-crypt p q r) =
      let l = line_at m i in
      let h = good-behind l (good-get good.lines i) in
      let g = get-same m.lines i in
      let s : shown (moved (line_at (back (seen m)) i) n) ≡ shown (moved l n) = ap (λ (x : MLine). shown (moved x n)) g ∙ moved_same l h n in
      let w = ap (λ (x : MLine). enciphered x (take n a.text)) g ∙ crypted-same l h (take n a.text) in
      λ j. record { outcome = answer 0 size n (w j); card = record { lines = set_same i (moved (line_at (back (seen m)) i) n) (moved l n) s j; parks = m.parks } }
  perform-same (park i size) (fair-park p) =
      let k = number_now m.parks i in
      let w = ap (λ (x : MLine). image_of i k (shown x)) (get-same m.lines i) ∙ ap (image_of i k) (shown-based (shown (line_at m i))) in
      λ j. record { outcome = answer 0 size 0 (w j); card = record { lines = set_same i idle idle refl j; parks = parked m.parks i } }
  perform-same (resume i l k size) (fair-resume f) = λ j. record { outcome = answer 0 size 0 []; card = record { lines = set_same i l l refl j; parks = taken m.parks k } }
  perform-same (change i p s size) (fair-change up le lim fit) =
      let l = line_at m i in
      let h = good-behind l (good-get good.lines i) in
      let e : shown (changed (line_at (back (seen m)) i) p s) ≡ shown (changed l p s) = ap (λ (x : MLine). shown (changed x p s)) (get-same m.lines i) ∙ changed-same l h p s in
      λ j. record { outcome = answer 0 size 0 []; card = record { lines = set_same i (changed (line_at (back (seen m)) i) p s) (changed l p s) e j; parks = m.parks } }
  perform-same (start i iv size) (fair-start up h) =
      let l = line_at m i in
      let e : shown (started_line (line_at (back (seen m)) i) iv) ≡ shown (started_line l iv) =
      ap (λ (x : MLine). shown (started_line x iv)) (get-same m.lines i) ∙ started-same l iv (good-get good.lines i) up in
      λ j. record { outcome = answer 0 size 0 []; card = record { lines = set_same i (started_line (line_at (back (seen m)) i) iv) (started_line l iv) e j; parks = m.parks } }

  perform-good : (e : Effect) → Fair m a e → GoodCard (perform m a.text e).machine
  perform-good (refuse k) fair-refuse = good
  perform-good (put i l size) (fair-put f) = record { lines = good-set good.lines i f; parks = good.parks; long = good.long }
  perform-good (crypt i n size) (fair-crypt p q r) = record { lines = good-set good.lines i (moved-good (line_at m i) n (good-get good.lines i) p q); parks = good.parks; long = good.long }
  perform-good (park i size) (fair-park p) = record { lines = good-set good.lines i good-idle; parks = parked-ok m.parks i good.long good.parks; long = parked-long m.parks i good.long }
  perform-good (resume i l k size) (fair-resume f) = record { lines = good-set good.lines i f; parks = taken-ok m.parks k good.long good.parks; long = taken-long m.parks k good.long }
  perform-good (change i p s size) (fair-change up le lim fit) =
      record { lines = good-set good.lines i (changed-good (line_at m i) p s (good-get good.lines i) up le lim fit); parks = good.parks; long = good.long }
  perform-good (start i iv size) (fair-start up h) =
      record { lines = good-set good.lines i (started-good (line_at m i) iv (good-get good.lines i) up h); parks = good.parks; long = good.long }

  -- every line stays good, and the parks do
  pub step-good : GoodCard (step m a).machine
  unfolding step decide
  step-good = perform-good _ (fair m a b (decode_of a.command))

  -- the card's step is the machine's
  pub step_same : card_step (seen m) a ≡ shows (step m a)
  unfolding card_step step decide
  step_same =
      ap (λ (t : Bool). pick t (shows (step (back (seen m)) a)) (record { outcome = answer 255 0 0 []; card = seen m })) (both_true (all-ok line_count m.lines (good-get good.lines)) good.parks)
      ∙ ap (λ (vs : List View). shows (perform (back (seen m)) a.text (decide (record { lines = vs; parks = m.parks }) a))) (views_same m.lines)
      ∙ perform-same _ (fair m a b (decode_of a.command))
